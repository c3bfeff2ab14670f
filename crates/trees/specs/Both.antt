-- A relation between what stands at two places, each of which may be empty.
use Rattle.std.proofs.Math.Option.{Option, some, none}
use Rattle.std.specs.Prelude.{◌≡◌, refl}

-- both are empty, or both are taken and R relates what stands there
pub data Both {X Y : Type 0} (R : X → Y → Type 0) : Option X → Option Y → Type 0 where
  neither : Both R none none
  both : {x : X} {y : Y} → R x y → Both R (some x) (some y)

module _ {X Y : Type 0} {R : X → Y → Type 0} where
  pub both_map : {S : X → Y → Type 0} → ((x : X) (y : Y) → R x y → S x y) → {o : Option X} {p : Option Y} → Both R o p → Both S o p
  both_map f neither = neither
  both_map f (both x) = both (f _ _ x)

  pub both_some : {x : X} {y : Y} → Both R (some x) (some y) → R x y
  both_some (both x) = x

  pub both_here : {x : X} {p : Option Y} → Both R (some x) p → (y : Y) × (p ≡ some y) × R x y
  both_here (both {y = y} x) = (y, refl, x)

  pub here_only : {x : X} → Both R (some x) none → ⊥
  here_only = elim [ ]

  pub there_only : {y : Y} → Both R none (some y) → ⊥
  there_only = elim [ ]

pub both_refl : {X : Type 0} {R : X → X → Type 0} → ((x : X) → R x x) → (o : Option X) → Both R o o
both_refl f none = neither
both_refl f (some x) = both (f x)

pub both_sym : {X Y : Type 0} {R : X → Y → Type 0} {S : Y → X → Type 0} → ((x : X) (y : Y) → R x y → S y x) → {o : Option X} {p : Option Y} → Both R o p → Both S p o
both_sym f neither = neither
both_sym f (both x) = both (f _ _ x)

pub both_trans : {X Y Z : Type 0} {R : X → Y → Type 0} {S : Y → Z → Type 0} {T : X → Z → Type 0}
    → ((x : X) (y : Y) (z : Z) → R x y → S y z → T x z) → {o : Option X} {p : Option Y} {q : Option Z} → Both R o p → Both S p q → Both T o q
both_trans f neither neither = neither
both_trans f (both x) (both y) = both (f _ _ _ x y)
