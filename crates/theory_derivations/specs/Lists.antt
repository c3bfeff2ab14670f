-- Lists: two that make none, sublists and permutations.
use Rattle.std.specs.Prelude.{◌≤◌, suc, ◌≡◌, refl, ◌↔◌, length}
use Rattle.std.proofs.Common.{arith, ◌∙◌, ap}
use mathlib.Core.List.Memᴰ
use mathlib.Core.List.Permᴰ
use mathlib.Core.List.{List, [], ◌∷◌, ◌++◌, cons-ne-nil, Sublistᴰ}
use Rattle.calculus.specs.Named.{In, Permuted}

module _ {A : Type 0} where
  pub none_iff : (l m : List A) → (l ++ m ≡ []) ↔ ((l ≡ []) × (m ≡ []))
  none_iff [] m = (λ e. (refl, e), λ h. h.1)
  none_iff (x ∷ l) m = (λ e. absurd (cons-ne-nil _ _ e), λ h. absurd (cons-ne-nil _ _ h.0))

  pub sub_in : {l m : List A} → Sublistᴰ l m → {x : A} → In x l → In x m
  sub_in Sublistᴰ.slnil i = i
  sub_in (Sublistᴰ.cons s) i = Memᴰ.tail (sub_in s i)
  sub_in (Sublistᴰ.cons-cons e s) (Memᴰ.head h) = Memᴰ.head (h ∙ e)
  sub_in (Sublistᴰ.cons-cons e s) (Memᴰ.tail i) = Memᴰ.tail (sub_in s i)

  pub sub_length : {l m : List A} → Sublistᴰ l m → length l ≤ length m
  sub_length Sublistᴰ.slnil = omega arith
  sub_length (Sublistᴰ.cons s) = omega (arith, sub_length s)
  sub_length (Sublistᴰ.cons-cons e s) = omega (arith, sub_length s)

  pub permuted_length : {l m : List A} → Permuted l m → length l ≡ length m
  permuted_length Permᴰ.nil = refl
  permuted_length (Permᴰ.cons e d) = ap suc (permuted_length d)
  permuted_length (Permᴰ.swap e f) = refl
  permuted_length (Permᴰ.trans d f) = permuted_length d ∙ permuted_length f
