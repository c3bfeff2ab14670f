-- "a channel passed out takes the next outside number": how a step changes the count of numbers given.
use Rattle.std.specs.Prelude.{ℕ, suc, ◌≡◌, Bool}
use Rattle.calculus.specs.Program.{Program}
use Rattle.calculus.specs.Configuration.{Config}
use Rattle.calculus.specs.Steps.{carried, step}
use Rattle.calculus.specs.declared.answers.Seen.{Seen}
use Rattle.calculus.specs.declared.answers.Seen.TheVariants.{Nothing, Label, Close, Passed, Cancelled}
use Rattle.theory_reductions.specs.Halting.{carried_counts}

-- "a channel passed out takes the next outside number"
pub passed_next : (p : Program) (C D : Config) (i n m : ℕ) (gone : Bool) → step p C i ≡ carried (Passed n m gone) D
    → (m ≡ C.given) × (D.given ≡ suc C.given)
passed_next p C D i n m gone e = carried_counts p C i (Passed n m gone) e

-- nothing is passed out
abbrev pub PassesNone : Seen → Type 0
PassesNone Nothing = Unit {0}
PassesNone (Label n l) = Unit {0}
PassesNone (Close n) = Unit {0}
PassesNone (Passed n m gone) = ⊥
PassesNone (Cancelled n) = Unit {0}

-- no other step gives a number
pub given_kept : (p : Program) (C D : Config) (i : ℕ) (seen : Seen) → PassesNone seen → step p C i ≡ carried seen D → D.given ≡ C.given
given_kept p C D i Nothing h e = carried_counts p C i Nothing e
given_kept p C D i (Label n l) h e = carried_counts p C i (Label n l) e
given_kept p C D i (Close n) h e = carried_counts p C i (Close n) e
given_kept p C D i (Passed n m gone) h e = absurd h
given_kept p C D i (Cancelled n) h e = carried_counts p C i (Cancelled n) e
