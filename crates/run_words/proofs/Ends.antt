-- Laws of what a process holds.
use Prim.Native.Nat.{ℕ, zero, suc, ◌+◌, ◌*◌, ◌<◌}
use mathlib.Core.List.{List, [], ◌∷◌, ◌++◌}
use mathlib.Core.Path.{◌≡◌, refl, sym, ap, subst, ◌∙◌}
use mathlib.Core.Option.{Option, some}
use native.Mathlib.Omega.{arith}
use lib.ListN.{get_or, get_elem?, set}
use lib.Dec.{eqb, eqb-zero-suc, eqb-suc-zero}
use borrow.Author.Tests.{eq-eqb}
use Rattle.calculus.specs.Types.{same_side}
use Rattle.run_words.specs.Lists.{remove_at}
use Rattle.run_words.specs.ListLaws.{at_tab}
use Rattle.run_words.specs.Raw.{RawEnd, side_of, rows, end_by, end_of}
use Rattle.run_words.specs.Values.{Moved, Written}
use Rattle.run_words.specs.RowLaws.{end_of_lem, end_local, rows_set, rows_append, rows_remove}

-- the ends that words have, from their start
abbrev pub ends : List ℕ → ℕ → List RawEnd
ends ws n = rows end_of 2 0 n (λ k. get_or ws k 0)

pub end_here : (ws : List ℕ) (n k a b : ℕ) → k < n → a ≡ get_or ws (2 * k) 0 → b ≡ get_or ws (2 * k + 1) 0
    → get_elem? (ends ws n) k ≡ some (end_by a b)
end_here ws n k a b h p q =
    let x : 0 + 2 * k + 0 ≡ 2 * k = omega arith in
    let y : 0 + 2 * k + 1 ≡ 2 * k + 1 = omega arith in
    at_tab _ n k h ∙ ap {B = Option RawEnd} some (end_of_lem (λ t. get_or ws (0 + 2 * k + t) 0) (ap (λ j. get_or ws j 0) x ∙ sym p) (ap (λ j. get_or ws j 0) y ∙ sym q))

module _ (ws new : List ℕ) (n k : ℕ) (e : RawEnd) (w : Written end_of 2 ws new (2 * k) e) where
  row_here : end_of (λ t. get_or new (0 + 2 * k + t) 0) ≡ e
  row_here = ap (λ b. end_of (λ t. get_or new (b + t) 0)) (omega arith) ∙ w.row

  pub ends_set : k < n → ends new n ≡ set (ends ws n) k e
  ends_set h = rows_set end_of 2 0 _ _ n (λ j l. end_local _) k (λ j a l. w.below j (omega arith)) e h row_here (λ j a l. w.above j (omega arith))

  pub ends_append : (m : ℕ) → k ≡ n → m ≡ suc n → ends new m ≡ ends ws n ++ (e ∷ [])
  ends_append m p q =
      rows_append end_of 2 0 _ _ n (λ j l. end_local _) k (λ j a l. w.below j (omega arith)) m e p q
      (subst (λ (i : ℕ). end_of (λ t. get_or new (0 + 2 * i + t) 0) ≡ e) p row_here)

pub ends_remove : (ws new : List ℕ) (k n m hi : ℕ) → n ≡ suc m → k < n → hi ≡ 2 * m → Moved ws new (2 * k) hi (λ t. get_or ws (t + 2) 0) → ends new m ≡ remove_at k (ends ws n)
ends_remove ws new k n m hi p h q v =
    rows_remove end_of 2 0 _ _ n (λ j l. end_local _) k (λ j a l. v.below j (omega arith)) m p h (λ j a l. v.inside j (omega arith) (omega arith))

-- sides as numbers
pub same_sides : (a b : ℕ) → a < 2 → b < 2 → same_side (side_of a) (side_of b) ≡ eqb a b
same_sides zero zero p q = refl
same_sides zero (suc b) p q = sym (eqb-zero-suc b)
same_sides (suc a) zero p q = sym (eqb-suc-zero a)
same_sides (suc a) (suc b) p q = let e : suc a ≡ suc b = omega arith in sym (eq-eqb _ _ e)
