-- Lists of named things: held channels, oldest first; types and processes by their names.
use mathlib.Core.List.{List, [], ◌∷◌, Memᴰ, Permᴰ}
use Rattle.std.specs.Prelude.{Bool, true, false, cond}
use Rattle.std.proofs.Math.Option.{Option, some, none}
use Rattle.notation.specs.Bytes.{same}
use Rattle.notation.specs.Tree.{Name}

-- ── membership, no element twice, and the same elements as often in another order
abbrev pub In : {A : Type 0} → A → List A → Type 0
In a l = Memᴰ a l

abbrev pub NoneTwice : {A : Type 0} → List A → Type 0
NoneTwice [] = Unit {0}
NoneTwice (x ∷ l) = ¬ In x l × NoneTwice l

abbrev pub Permuted : {A : Type 0} → List A → List A → Type 0
Permuted l k = Permᴰ l k

-- ── things by their names
module _ {X : Type 0} where
  -- the first thing of a name
  unfoldable pub lookup : Name → List (Name × X) → Option X
  lookup c [] = none
  lookup c (e ∷ l) = cond (same c e.0) (some e.1) (lookup c l)

  -- the list without the first thing of a name
  unfoldable pub without : Name → List (Name × X) → List (Name × X)
  without c [] = []
  without c (e ∷ l) = cond (same c e.0) l (e ∷ without c l)

  -- the first thing of a name changed, in its place
  unfoldable pub changed : Name → (X → X) → List (Name × X) → List (Name × X)
  changed c f [] = []
  changed c f (e ∷ l) = cond (same c e.0) ((e.0, f e.1) ∷ l) (e ∷ changed c f l)

  unfoldable pub names : List (Name × X) → List Name
  names [] = []
  names (e ∷ l) = e.0 ∷ names l

-- the things whose names M holds of, in their order
pub data Kept {X : Type 0} (M : Name → Type 0) : List (Name × X) → List (Name × X) → Type 0 where
  of_none : Kept M [] []
  keeping : {e : Name × X} {l k : List (Name × X)} → M e.0 → Kept M l k → Kept M (e ∷ l) (e ∷ k)
  leaving : {e : Name × X} {l k : List (Name × X)} → ¬ M e.0 → Kept M l k → Kept M (e ∷ l) k

-- ── tests
abbrev pub is_some : {X : Type 0} → Option X → Bool
is_some none = false
is_some (some x) = true

-- every element passes the test; some element does
abbrev pub every : {X : Type 0} → (X → Bool) → List X → Bool
every p [] = true
every p (x ∷ xs) = let r = every p xs in cond (p x) r false

abbrev pub any_of : {X : Type 0} → (X → Bool) → List X → Bool
any_of p [] = false
any_of p (x ∷ xs) = let r = any_of p xs in cond (p x) true r

-- those whose names pass a test, in their order
unfoldable pub kept : {X : Type 0} → (Name → Bool) → List (Name × X) → List (Name × X)
kept p [] = []
kept p (e ∷ l) = cond (p e.0) (e ∷ kept p l) (kept p l)

-- no name comes twice
unfoldable pub distinct : List Name → Bool
distinct [] = true
distinct (n ∷ ns) = cond (any_of (same n) ns) false (distinct ns)
