-- What a step does to the list of processes: it changes some in their places, brings one, or takes one away.
use Rattle.std.specs.Prelude.{ℕ, ◌≡◌, refl, ◌≢◌, List, set}
use Rattle.std.proofs.Common.{◌∙◌, ap}
use Rattle.std.proofs.Math.Option.{Option, some, none}
use Rattle.notation.specs.Tree.{Name, Located, Proc}
use Rattle.calculus.specs.Program.{Program}
use Rattle.calculus.specs.Configuration.{End, Process, Config, Stands, Holder, at_process, given_up, far_end, inserted, removed}
use Rattle.calculus.specs.Steps.{Outcome, carried, uncaught, not_open, lacking, Turn, sends, receives, alone, turn, turn_of, started_handler, folded_handler, changed_at, far_moved, step}
use Rattle.calculus.specs.Named.{In}
use Rattle.calculus.specs.declared.answers.Seen.{Seen}
use Rattle.calculus.specs.declared.answers.Seen.TheVariants.{Nothing}
use Rattle.calculus.specs.Reduces.{Holds, Answers, GivesUp, by_process, by_outside, by_nobody, Empty, Sends, close_meets, channel_meets, label_meets, label_left_out, close_shows, label_shows, channel_shows, gone_shows, close_lost, label_lost, channel_lost, Naming, its_own, its_recv, Reduces, communicates, spawns, tries, calls, cancels, raises, joins, joins_outside, joins_nobody, nobody_joins, unanswered, folds, leaves}
use Rattle.theory_derivations.specs.Named.{lookup_in}
use Rattle.theory_ends.specs.FarEnds.{found_key, far_held, given_up_unheld, far_back}
use Rattle.theory_reductions.specs.CarriedOut.{holder_stands}
use Rattle.theory_reductions.specs.StepIff.{step_iff}
use Rattle.theory_progress.specs.Starting.{StartsHandler, by_raise, by_lost_recv, by_left_out}

-- the name on which a send or a recv acts
abbrev pub acts_on : Turn → Option Name
acts_on (sends c m P) = some c.name
acts_on (receives c w) = some c.name
acts_on alone = none

-- a process that sends or receives, on a channel whose far end was not given up
pub record Engaged (C : Config) (r : Process) : Type 0 where
  pub name : Name
  pub acts_on_lem : acts_on (turn_of r.doing) ≡ some name
  pub end : End
  pub held : In (name, end) r.held
  pub answered : far_end C end ≢ given_up

-- a place that a step at place k changes: k itself, or that of its partner
pub data Touched (C : Config) (k : ℕ) : ℕ → Type 0 where
  itself : {j : ℕ} → j ≡ k → Touched C k j
  partner : {j : ℕ} {r : Process} → Stands C j r → Engaged C r → Touched C k j

-- by what is seen, the list of processes afterwards
pub data Shape (C : Config) (k : ℕ) : Seen → List Process → Type 0 where
  one : {seen : Seen} (j : ℕ) (x : Process) → Touched C k j → Shape C k seen (set C.processes j x)
  two : (j h : ℕ) (x y : Process) → Touched C k j → Touched C k h → Shape C k Nothing (set (set C.processes j x) h y)
  -- a fwd, of the process q, moves the far end of its end e, which another process holds
  joined : {q : Process} {n : Name} (h : ℕ) {r : Process} (x : Process) (e d : End) → Stands C k q → In (n, e) q.held → Stands C h r
      → Shape C k Nothing (set (set C.processes k x) h (far_moved e d r))
  handled : (x : Process) {q : Process} → StartsHandler C k q → Shape C k Nothing (set (changed_at started_handler q.link C.processes) k x)
  left_out : (j h : ℕ) (x y : Process) {r : Process} → Touched C k j → Touched C k h → StartsHandler C k r
      → Shape C k Nothing (set (changed_at started_handler r.link (set C.processes j x)) h y)
  spawned_one : (x y : Process) → Shape C k Nothing (inserted k x (set C.processes k y))
  tried_one : (x y : Process) → Shape C k Nothing (set (inserted k x C.processes) k y)
  left : {q : Process} → Stands C k q → Empty q → Shape C k Nothing (removed k (changed_at folded_handler q.link C.processes))

module _ {C : Config} {k : ℕ} where
  -- who holds the far end of an end that is held, and acts on it
  engaged : {i : ℕ} {q : Process} {c c' : Located} {e : End} {h : Holder} {P : Proc} → Stands C i q → Holds C q c e (at_process h) → Answers h c' P
      → acts_on (turn P) ≡ some c'.name → Touched C k h.place
  engaged {i} {q} {c} {e = e} {h} s l a t =
      let f = far_held C e l.far in
      partner (holder_stands l) (record {
        name = h.name;
        acts_on_lem = ap (λ d. acts_on (turn_of d)) a.runs ∙ t ∙ ap some a.name;
        end = f.end;
        held = f.held;
        answered = λ z. given_up_unheld f.end z s (lookup_in c.name q.held l.held) (far_back e f.end (found_key f));
      })

  names : {j : ℕ} → Naming C k j → Touched C k j
  names its_own = itself refl
  names (its_recv r t h a u) = engaged r.stands h a (ap acts_on u)

  gives_up : {j : ℕ} (q : Process) {e : End} {seen : Seen} {D : Config} → Touched C k j → GivesUp C e seen D → Shape C k seen (set D.processes j q)
  gives_up q t (by_process z) = one _ _ t
  gives_up q t (by_outside z) = one _ _ t
  gives_up q t (by_nobody z) = one _ _ t

module _ {p : Program} {C : Config} {k : ℕ} where
  sent : {j : ℕ} {seen : Seen} {D : Config} → Naming C k j → Sends p C j seen D → Shape C k seen D.processes
  sent n (close_meets r h a) = two _ _ _ _ (names n) (engaged r.stands h a refl)
  sent n (channel_meets r h a) = two _ _ _ _ (names n) (engaged r.stands h a refl)
  sent n (label_meets r h a b) = two _ _ _ _ (names n) (engaged r.stands h a refl)
  sent n (label_left_out r h a b l) = left_out _ _ _ _ (names n) (engaged r.stands h a refl) (by_left_out n r h a b refl)
  sent n (close_shows r h) = one _ _ (names n)
  sent n (label_shows r h) = one _ _ (names n)
  sent n (channel_shows r h l m b) = one _ _ (names n)
  sent n (gone_shows r h l m) = one _ _ (names n)
  sent n (close_lost r h) = one _ _ (names n)
  sent n (label_lost r h) = one _ _ (names n)
  sent n (channel_lost r h l g) = gives_up _ (names n) g

  reduced : {seen : Seen} {D : Config} → Reduces p C k seen D → Shape C k seen D.processes
  reduced (communicates n s) = sent n s
  reduced (spawns r n h) = spawned_one _ _
  reduced (tries r n) = tried_one _ _
  reduced (calls r s) = one _ _ (itself refl)
  reduced (cancels r h g) = gives_up _ (itself refl) g
  reduced (raises r l) = handled _ (by_raise r)
  reduced (joins {x = x} {e = e} {d = d} r h l n) = joined _ _ e d r.stands (lookup_in x.name _ h.held) (holder_stands h)
  reduced (joins_outside r h l n) = one _ _ (itself refl)
  reduced (joins_nobody r h l n) = one _ _ (itself refl)
  reduced (nobody_joins r h l g) = gives_up _ (itself refl) g
  reduced (unanswered {P = P} {w = w} {e = e} r t h) = handled _ (by_lost_recv (record { term = P; runs = r; wanted = w; receives_on = t; held = e; holds = h }))
  reduced (folds s d h g) = gives_up _ (itself refl) g
  reduced (leaves s e) = left s e

pub step_shape : (p : Program) (C D : Config) (k : ℕ) (seen : Seen) → step p C k ≡ carried seen D → Shape C k seen D.processes
step_shape p C D k seen e = reduced ((step_iff p C k).0 e)

-- the configuration that an outcome leaves, its halt aside
abbrev pub config_by : Config → Outcome → Config
config_by C (carried s D) = D
config_by C uncaught = C
config_by C not_open = C
config_by C lacking = C
