-- What the outside's types come to: a type that keeps the exec rule stands, by its own mark or its name's definition, for none of @, -o and &.
use Rattle.std.specs.Prelude.{◌≡◌, refl, Bool, true, false}
use Rattle.std.proofs.lemmas.Bool.{false≢true}
use Rattle.notation.specs.Tree.{Name, Ty, unit, named, tensor, par, lolli, plus, with}
use Rattle.calculus.specs.Types.{unfolded}
use Rattle.calculus.specs.Program.{Program}
use Rattle.calculus.specs.Outward.{ReachesOther, at_par, at_lolli, at_with, Outward}
use Rattle.theory_derivations.specs.Reached.{standing_reaches}

-- the type's own mark is @, -o or &
abbrev pub other_mark : Ty Name → Bool
other_mark unit = false
other_mark (named n) = false
other_mark (tensor A B) = false
other_mark (par A B) = true
other_mark (lolli A B) = true
other_mark (plus r) = false
other_mark (with r) = true

other_mark_reaches : (p : Program) (A : Ty Name) → other_mark A ≡ true → ReachesOther p A
other_mark_reaches p unit e = absurd (false≢true e)
other_mark_reaches p (named n) e = absurd (false≢true e)
other_mark_reaches p (tensor A B) e = absurd (false≢true e)
other_mark_reaches p (par A B) e = at_par
other_mark_reaches p (lolli A B) e = at_lolli
other_mark_reaches p (plus r) e = absurd (false≢true e)
other_mark_reaches p (with r) e = at_with

-- "reach only 1, * and +, through names as well"
pub outward_stands : (p : Program) (A : Ty Name) → Outward p A → other_mark (unfolded p.types A) ≡ false
outward_stands p A h = go (other_mark (unfolded p.types A)) refl
  where
    go : (b : Bool) → other_mark (unfolded p.types A) ≡ b → b ≡ false
    go true t = absurd (h (standing_reaches p A (other_mark_reaches p _ t)))
    go false t = refl
