-- When two types are one: "Types are equal when they unfold, name by name and without end, to the same tree; the order of labels in a choice does not count."
use Rattle.std.specs.Prelude.{Bool}
use Rattle.std.proofs.Math.Bool.{So}
use Rattle.trees.specs.Both.{Both}
use Rattle.notation.specs.Tree.{Name, Ty, unit, named, tensor, par, lolli, plus, with, Alternatives}
use Rattle.calculus.specs.Types.{unfolded, labelled}
use Rattle.calculus.specs.Program.{Program}

-- two types of one mark, a constructor for each mark, whose parts R relates; a label leads in both to types that R relates, or in neither to any
pub data Alike (R : Ty Name → Ty Name → Type 0) : Ty Name → Ty Name → Type 0 where
  units : Alike R unit unit
  -- a name that nothing defines is like itself alone
  names : {n : Name} → Alike R (named n) (named n)
  tensors : {A B C D : Ty Name} → R A C → R B D → Alike R (tensor A B) (tensor C D)
  pars : {A B C D : Ty Name} → R A C → R B D → Alike R (par A B) (par C D)
  lollis : {A B C D : Ty Name} → R A C → R B D → Alike R (lolli A B) (lolli C D)
  pluses : {r q : Alternatives Name} → ((l : Name) → Both R (labelled l r) (labelled l q)) → Alike R (plus r) (plus q)
  withs : {r q : Alternatives Name} → ((l : Name) → Both R (labelled l r) (labelled l q)) → Alike R (with r) (with q)

-- a relation that unfolding keeps: where it holds of two types, what their names stand for is alike in it
abbrev pub Closed : Program → (Ty Name → Ty Name → Type 0) → Type 0
Closed p R = (A B : Ty Name) → R A B → Alike R (unfolded p.types A) (unfolded p.types B)

-- two types are one in the program p: there is a relation that holds of them and that unfolding keeps. It is a test, so that the record is as small as the others; any relation will do (`closed_one`).
pub record OneType (p : Program) (A B : Ty Name) : Type 0 where
  pub relation : Ty Name → Ty Name → Bool
  pub closed : Closed p (λ C D. So (relation C D))
  pub holds : So (relation A B)
