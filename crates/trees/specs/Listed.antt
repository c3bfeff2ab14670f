-- What is in a list, what is left without one thing, and the pairs of two lists: all of it computes.
use Rattle.std.specs.Prelude.{◌≡◌, ◌⊎◌, ◌≤◌, ◌<◌}
use Rattle.std.proofs.Math.Path.{sym}
use Rattle.std.proofs.Common.{◌∙◌, subst}
use Rattle.std.proofs.Math.Logic.{inl, inr}
use mathlib.Core.List.{List, [], ◌∷◌, ◌++◌}
use native.Mathlib.Omega.{arith}
use Rattle.std.proofs.Math.ListN.{length}

-- a is in the list
abbrev pub Listed : {A : Type 0} → A → List A → Type 0
Listed a [] = ⊥
Listed a (b ∷ l) = (a ≡ b) ⊎ Listed a l

module _ {A : Type 0} where
  pub in_left : (a : A) (l m : List A) → Listed a l → Listed a (l ++ m)
  in_left a [] m i = absurd i
  in_left a (b ∷ l) m (inl e) = inl e
  in_left a (b ∷ l) m (inr i) = inr (in_left a l m i)

  pub in_right : (a : A) (l m : List A) → Listed a m → Listed a (l ++ m)
  in_right a [] m i = i
  in_right a (b ∷ l) m i = inr (in_right a l m i)

  pub in_either : (a : A) (l m : List A) → Listed a (l ++ m) → Listed a l ⊎ Listed a m
  in_either a [] m i = inr i
  in_either a (b ∷ l) m (inl e) = inl (inl e)
  in_either a (b ∷ l) m (inr i) = elim (in_either a l m i) [ inl j ↦ inl (inr j) | inr j ↦ inr j ]

-- ── lists of things with a test for sameness
module _ {A : Type 0} (dec : (a b : A) → Dec (a ≡ b)) where
  unfoldable pub in? : (a : A) (l : List A) → Dec (Listed a l)
  in? a [] = no (λ i. i)
  in? a (b ∷ l) = go (dec a b) (in? a l)
    where
      go : Dec (a ≡ b) → Dec (Listed a l) → Dec ((a ≡ b) ⊎ Listed a l)
      go (yes e) i = yes (inl e)
      go (no d) (yes i) = yes (inr i)
      go (no d) (no n) = no (elim [ inl e ↦ d e | inr i ↦ n i ])

  abbrev pub unless : {P : Type 0} → Dec P → A → List A → List A
  unless (yes e) b l = l
  unless (no d) b l = b ∷ l

  unfoldable pub without : A → List A → List A
  without a [] = []
  without a (b ∷ l) = unless (dec a b) b (without a l)

  module _ (a : A) where
    pub without_not : (l : List A) → Listed a (without a l) → ⊥
    unfolding without
    without_not [] i = i
    without_not (b ∷ l) i = go (dec a b) (without_not l) i
      where
        go : (d : Dec (a ≡ b)) → (Listed a (without a l) → ⊥) → Listed a (unless d b (without a l)) → ⊥
        go (yes e) f i = f i
        go (no d) f (inl e) = d e
        go (no d) f (inr i) = f i

    pub without_in : (c : A) (l : List A) → Listed c (without a l) → Listed c l
    unfolding without
    without_in c [] i = i
    without_in c (b ∷ l) i = go (dec a b) (without_in c l) i
      where
        go : (d : Dec (a ≡ b)) → (Listed c (without a l) → Listed c l) → Listed c (unless d b (without a l)) → Listed c (b ∷ l)
        go (yes e) f i = inr (f i)
        go (no d) f (inl e) = inl e
        go (no d) f (inr i) = inr (f i)

    pub in_without : (c : A) (l : List A) → (c ≡ a → ⊥) → Listed c l → Listed c (without a l)
    unfolding without
    in_without c [] n i = i
    in_without c (b ∷ l) n i = go (dec a b) (in_without c l n) i
      where
        go : (d : Dec (a ≡ b)) → (Listed c l → Listed c (without a l)) → Listed c (b ∷ l) → Listed c (unless d b (without a l))
        go (yes e) f (inl g) = absurd (n (g ∙ sym e))
        go (yes e) f (inr i) = f i
        go (no d) f (inl g) = inl g
        go (no d) f (inr i) = inr (f i)

    pub without_le : (l : List A) → length (without a l) ≤ length l
    unfolding without
    without_le [] = omega arith
    without_le (b ∷ l) = go (dec a b) (without_le l)
      where
        go : (d : Dec (a ≡ b)) → length (without a l) ≤ length l → length (unless d b (without a l)) ≤ length (b ∷ l)
        go (yes e) f = omega arith
        go (no d) f = omega arith

    pub without_less : (l : List A) → Listed a l → length (without a l) < length l
    unfolding without
    without_less [] i = absurd i
    without_less (b ∷ l) i = go (dec a b) (without_le l) (without_less l) i
      where
        go : (d : Dec (a ≡ b)) → length (without a l) ≤ length l → (Listed a l → length (without a l) < length l) → Listed a (b ∷ l) → length (unless d b (without a l)) < length (b ∷ l)
        go (yes e) f g i = omega arith
        go (no d) f g (inl e) = absurd (d e)
        go (no d) f g (inr i) = let k = g i in omega arith

-- all pairs of a list
unfoldable pub row : {A : Type 0} → A → List A → List (A × A)
row a [] = []
row a (b ∷ l) = (a, b) ∷ row a l

unfoldable pub square : {A : Type 0} → List A → List A → List (A × A)
square [] m = []
square (a ∷ l) m = row a m ++ square l m

in_row : {A : Type 0} (a b : A) (m : List A) → Listed b m → Listed (a, b) (row a m)
unfolding row
in_row a b [] i = i
in_row a b (c ∷ m) (inl e) = inl (λ i. (a, e i))
in_row a b (c ∷ m) (inr i) = inr (in_row a b m i)

pub in_square : {A : Type 0} (a b : A) (l m : List A) → Listed a l → Listed b m → Listed (a, b) (square l m)
unfolding square
in_square a b [] m i j = i
in_square a b (c ∷ l) m (inl e) j = in_left (a, b) (row c m) (square l m) (subst (λ d. Listed (a, b) (row d m)) e (in_row a b m j))
in_square a b (c ∷ l) m (inr i) j = in_right (a, b) (row c m) (square l m) (in_square a b l m i j)
