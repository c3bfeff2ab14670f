-- Searches and comparisons as loops make them: the invariants, and their laws.
use Prim.Native.Nat.{ℕ, suc, ◌+◌, ◌-◌, ◌≤◌, ◌<◌}
use mathlib.Core.Path.{◌≡◌, refl, sym, ap, ◌∙◌}
use mathlib.Core.List.{List, [], ◌∷◌}
use mathlib.Core.Bool.{Bool, true, false, ◌&&◌}
use native.Mathlib.Numerals.{add-one}
use native.Mathlib.Omega.{arith}
use lib.Dec.{eqb}
use lib.Pointwise.{pointwise}
use lib.ListN.{length, get_or, take, drop, drop_of_length-le, length-drop}
use lib.Seq.{drop-cons, take-nil, take_all}
use borrow.Author.Tests.{eq-eqb, ne_eqb}
use Rattle.notation.specs.Bytes.{position, same}

-- a search over xs from `at` has come to i, and not found yet
pub record Scan {A : Type 0} (p : A → Bool) (xs : List A) (at i : ℕ) : Type 0 where
  pub left : position p (drop i xs) i ≡ position p (drop at xs) at

module _ {A : Type 0} {p : A → Bool} {xs : List A} {at i : ℕ} where
  pub scan_hit : Scan p xs at i → (d : A) → i < length xs → p (get_or xs i d) ≡ true → i ≡ position p (drop at xs) at
  unfolding position
  scan_hit v d h e = rw (drop-cons xs i d, position, e) at v.left

  pub scan_next : Scan p xs at i → (d : A) → i < length xs → p (get_or xs i d) ≡ false → Scan p xs at (i + 1)
  unfolding position
  scan_next v d h e = record { left = rw add-one (rw (drop-cons xs i d, position, e) at v.left) }

  pub scan_end : Scan p xs at i → length xs ≤ i → i ≡ position p (drop at xs) at
  unfolding position
  scan_end v h = rw (drop_of_length-le xs h, position) at v.left

-- lists are the same where their elements are
pub same_pointwise : (xs ys : List ℕ) → pointwise eqb xs ys ≡ same xs ys
unfolding same
same_pointwise [] [] = refl
same_pointwise [] (y ∷ ys) = refl
same_pointwise (x ∷ xs) [] = refl
same_pointwise (x ∷ xs) (y ∷ ys) = go (eqb x y) (same_pointwise xs ys)
  where
    go : (b : Bool) → pointwise eqb xs ys ≡ same xs ys → ◌≡◌ {A = Bool} (b && pointwise eqb xs ys) (elim b [ true ↦ same xs ys | false ↦ false ])
    go true e = e
    go false e = refl

-- lists of different lengths differ
pub same_length : (xs ys : List ℕ) → (length xs ≡ length ys → ⊥) → same xs ys ≡ false
unfolding same
same_length [] [] h = absurd (h refl)
same_length [] (y ∷ ys) h = refl
same_length (x ∷ xs) [] h = refl
same_length (x ∷ xs) (y ∷ ys) h = go (eqb x y) (same_length xs ys (λ e. h (ap suc e)))
  where
    go : (b : Bool) → same xs ys ≡ false → ◌≡◌ {A = Bool} (elim b [ true ↦ same xs ys | false ↦ false ]) false
    go true e = e
    go false e = refl

-- what there is of the n bytes from i
module _ (s : List ℕ) (i n : ℕ) where
  pub part_none : length s ≤ i → [] ≡ take n (drop i s)
  part_none h = rw (drop_of_length-le s h) (sym (take-nil n))

  pub part_rest : length s - i ≤ n → take (length s - i) (drop i s) ≡ take n (drop i s)
  part_rest h =
      take_all (length s - i) (drop i s) (simp length-drop (omega arith))
      ∙ sym (take_all n (drop i s) (simp length-drop h))
