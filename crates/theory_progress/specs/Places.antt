-- The places below a number.
use Rattle.std.specs.Prelude.{ℕ, zero, suc, ◌≤◌, ◌<◌, ◌≡◌, refl, List, [], ◌∷◌, length}
use Rattle.std.proofs.Common.{arith, ap}
use Rattle.std.proofs.Math.Decide.{dec_le}
use mathlib.Core.List.Memᴰ
use Rattle.calculus.specs.Named.{In, NoneTwice}

unfoldable pub places : ℕ → List ℕ
places zero = []
places (suc n) = n ∷ places n

pub length_places : (n : ℕ) → length (places n) ≡ n
unfolding places
length_places zero = refl
length_places (suc n) = ap suc (length_places n)

pub in_places : (n : ℕ) {k : ℕ} → k < n → In k (places n)
unfolding places
in_places zero h = absurd (omega arith)
in_places (suc n) {k} h = go (dec_le n k) (λ l. in_places n l)
  where
    go : Dec (n ≤ k) → (k < n → In k (places n)) → In k (n ∷ places n)
    go (yes l) r = let e : k ≡ n = omega arith in Memᴰ.head e
    go (no l) r = Memᴰ.tail (r (omega arith))

pub places_below : (n : ℕ) {k : ℕ} → In k (places n) → k < n
unfolding places
places_below zero m = absurd (Memᴰ.not-nil m)
places_below (suc n) (Memᴰ.head e) = omega arith
places_below (suc n) (Memᴰ.tail m) = let h = places_below n m in omega arith

pub places_once : (n : ℕ) → NoneTwice (places n)
unfolding places
places_once zero = tt
places_once (suc n) = ((λ m. let h = places_below n m in absurd (omega arith)), places_once n)
