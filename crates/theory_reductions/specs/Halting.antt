-- A step that is taken is carried out, or halts the run; and what a rule does to the halt and to the count of outside numbers.
use Rattle.std.specs.Prelude.{ℕ, suc, ◌≡◌, refl}
use Rattle.calculus.specs.Program.{Program}
use Rattle.calculus.specs.Configuration.{End, Config, halt}
use Rattle.calculus.specs.Steps.{carried, uncaught, step}
use Rattle.calculus.specs.Reduces.{GivesUp, by_process, by_outside, by_nobody, Sends, close_meets, channel_meets, label_meets, label_left_out, close_shows, label_shows, channel_shows, gone_shows, close_lost, label_lost, channel_lost, Reduces, communicates, spawns, tries, calls, cancels, raises, joins, joins_outside, joins_nobody, nobody_joins, unanswered, folds, leaves}
use Rattle.calculus.specs.declared.answers.Seen.{Seen}
use Rattle.calculus.specs.declared.answers.Seen.TheVariants.{Nothing, Label, Close, Passed, Cancelled}
use Rattle.theory_reductions.specs.StepIff.{step_iff}

-- the step at place i takes the run from C to D, and shows `seen`
pub data Takes (p : Program) (C : Config) (i : ℕ) : Seen → Config → Type 0 where
  carries_out : {seen : Seen} {D : Config} → step p C i ≡ carried seen D → Takes p C i seen D
  halts : step p C i ≡ uncaught → Takes p C i Nothing (halt C)

-- ── what is carried out leaves the halt as it was, and counts the outside numbers
-- of g numbers given before a step that shows this, h are given after it: one more where a channel is passed out, whose number is then g
abbrev pub Counted : ℕ → Seen → ℕ → Type 0
Counted g Nothing h = h ≡ g
Counted g (Label n l) h = h ≡ g
Counted g (Close n) h = h ≡ g
Counted g (Passed n m gone) h = (m ≡ g) × (h ≡ suc g)
Counted g (Cancelled n) h = h ≡ g

abbrev Keeps : Config → Seen → Config → Type 0
Keeps C seen D = (D.halted ≡ C.halted) × Counted C.given seen D.given

given_up_keeps : {C : Config} {e : End} {seen : Seen} {D : Config} → GivesUp C e seen D → Keeps C seen D
given_up_keeps (by_process z) = (refl, refl)
given_up_keeps (by_outside z) = (refl, refl)
given_up_keeps (by_nobody z) = (refl, refl)

module _ {p : Program} {C : Config} {i : ℕ} where
  sends_keeps : {seen : Seen} {D : Config} → Sends p C i seen D → Keeps C seen D
  sends_keeps (close_meets r k a) = (refl, refl)
  sends_keeps (channel_meets r k a) = (refl, refl)
  sends_keeps (label_meets r k a b) = (refl, refl)
  sends_keeps (label_left_out r k a b l) = (refl, refl)
  sends_keeps (close_shows r k) = (refl, refl)
  sends_keeps (label_shows r k) = (refl, refl)
  sends_keeps (channel_shows r k l n m) = (refl, (refl, refl))
  sends_keeps (gone_shows r k l m) = (refl, (refl, refl))
  sends_keeps (close_lost r k) = (refl, refl)
  sends_keeps (label_lost r k) = (refl, refl)
  sends_keeps (channel_lost r k l g) = given_up_keeps g

-- one clause a rule
pub reduces_keeps : {p : Program} {C : Config} {i : ℕ} {seen : Seen} {D : Config} → Reduces p C i seen D → Keeps C seen D
reduces_keeps (communicates n s) = sends_keeps s
reduces_keeps (spawns r n k) = (refl, refl)
reduces_keeps (tries r n) = (refl, refl)
reduces_keeps (calls r s) = (refl, refl)
reduces_keeps (cancels r k g) = given_up_keeps g
reduces_keeps (raises r l) = (refl, refl)
reduces_keeps (joins r k l n) = (refl, refl)
reduces_keeps (joins_outside r k l n) = (refl, refl)
reduces_keeps (joins_nobody r k l n) = (refl, refl)
reduces_keeps (nobody_joins r k l g) = given_up_keeps g
reduces_keeps (unanswered r t k) = (refl, refl)
reduces_keeps (folds s d h g) = given_up_keeps g
reduces_keeps (leaves s e) = (refl, refl)

pub carried_keeps : (p : Program) (C D : Config) (i : ℕ) (seen : Seen) → step p C i ≡ carried seen D → D.halted ≡ C.halted
carried_keeps p C D i seen e = (reduces_keeps ((step_iff p C i).0 e)).0

pub carried_counts : (p : Program) (C : Config) (i : ℕ) (seen : Seen) {D : Config} → step p C i ≡ carried seen D → Counted C.given seen D.given
carried_counts p C i seen e = (reduces_keeps ((step_iff p C i).0 e)).1

-- and so where it halts the run
pub taken_counts : {p : Program} {C : Config} {i : ℕ} {seen : Seen} {D : Config} → Takes p C i seen D → Counted C.given seen D.given
taken_counts {p} {C} {i} (carries_out {seen} e) = carried_counts p C i seen e
taken_counts (halts e) = refl
