-- Types that keep the exec rule: they "reach only 1, * and +, through names as well".
use Rattle.notation.specs.Tree.{Name, Ty, named, tensor, par, lolli, plus, with, Alternatives, alternative}
use Rattle.calculus.specs.Named.{In}
use Rattle.calculus.specs.Program.{Program}

-- a type reaches @, -o or &: it is one, a part of it reaches one, or what its name is defined as does
mutual
  pub data ReachesOther (p : Program) : Ty Name → Type 0 where
    at_par : {A B : Ty Name} → ReachesOther p (par A B)
    at_lolli : {A B : Ty Name} → ReachesOther p (lolli A B)
    at_with : {r : Alternatives Name} → ReachesOther p (with r)
    in_first : {A B : Ty Name} → ReachesOther p A → ReachesOther p (tensor A B)
    in_second : {A B : Ty Name} → ReachesOther p B → ReachesOther p (tensor A B)
    in_choice : {r : Alternatives Name} → SomeReaches p r → ReachesOther p (plus r)
    through_name : {n : Name} (A : Ty Name) → In (n, A) p.types → ReachesOther p A → ReachesOther p (named n)

  -- the type of one of the labels does
  pub data SomeReaches (p : Program) : Alternatives Name → Type 0 where
    at_this : {l : Name} {A : Ty Name} {r : Alternatives Name} → ReachesOther p A → SomeReaches p (alternative l A r)
    at_another : {l : Name} {A : Ty Name} {r : Alternatives Name} → SomeReaches p r → SomeReaches p (alternative l A r)

abbrev pub Outward : Program → Ty Name → Type 0
Outward p A = ¬ ReachesOther p A
