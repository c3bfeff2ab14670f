-- A list's words: kept until the list ends, then put, the last of them first.
use mathlib.Core.Path.{◌≡◌, refl, ap, sym, ◌∙◌}
use mathlib.Core.List.{List}
use Prim.Native.Nat.{ℕ, zero, suc, ◌+◌, ◌-◌, ◌<◌}
use native.Mathlib.Numerals.{add-one}
use native.Mathlib.Omega.{arith}
use lib.ListN.{length, get_or, set}
use lib.Seq.{get_or-set_same, get_or-set_other}
use Rattle.read_types.specs.Filling.{list_put}

-- nothing is left to put; the last word is put
pub list_none : (kept : List ℕ) (i at : ℕ) (w : List ℕ) → i ≡ 0 → list_put kept i at w ≡ w
unfolding list_put
list_none kept i at w e = rw e refl

pub list_last : (kept : List ℕ) (i j at : ℕ) (w : List ℕ) → i ≡ j + 1 → list_put kept i at w ≡ list_put kept j (at + 1) (set w at (get_or kept j 0))
unfolding list_put
list_last kept i j at w e = rw (e, add-one j) refl

-- only the first n words are put
list_same : (kept more : List ℕ) (n at : ℕ) (w : List ℕ) → ((i : ℕ) → i < n → get_or kept i 0 ≡ get_or more i 0) → list_put kept n at w ≡ list_put more n at w
unfolding list_put
list_same kept more zero at w h = refl
list_same kept more (suc n) at w h =
    list_same kept more n (at + 1) (set w at (get_or kept n 0)) (λ i l. h i (omega arith)) ∙ ap (λ x. list_put more n (at + 1) (set w at x)) (h n (omega arith))

-- one more is kept: it is put first
pub list_more : (kept : List ℕ) (n x at : ℕ) (w : List ℕ) → n < length kept → list_put (set kept n x) (n + 1) at w ≡ list_put kept n (at + 1) (set w at x)
list_more kept n x at w l =
    list_last (set kept n x) (n + 1) n at w refl
    ∙ ap (λ y. list_put (set kept n x) n (at + 1) (set w at y)) (get_or-set_same kept n x 0 l)
    ∙ list_same (set kept n x) kept n (at + 1) (set w at x) (λ i m. get_or-set_other kept n i x 0 (λ e. absurd (omega arith)))

-- the loop that puts them: one more is put
pub put_next : (kept : List ℕ) (n at i : ℕ) (v : List ℕ) {w : List ℕ} → i < n → list_put kept (n - i) (at + i) v ≡ w
    → list_put kept (n - (i + 1)) (at + (i + 1)) (set v (at + i) (get_or kept (n - 1 - i) 0)) ≡ w
put_next kept n at i v l h =
    let left : n - (i + 1) ≡ n - 1 - i = omega arith in
    let next : at + (i + 1) ≡ at + i + 1 = omega arith in
    rw (left, next) (sym (list_last kept (n - i) (n - 1 - i) (at + i) v (omega arith)) ∙ h)
