-- The constant table of the reserved words: its rule is a test that is computed over the whole table.
use Prim.Native.Nat.{ℕ, zero, suc, ◌+◌, ◌*◌, ◌≤◌, ◌<◌}
use mathlib.Core.Path.{◌≡◌, refl, sym, ap, subst}
use mathlib.Core.List.{List, [], ◌∷◌}
use mathlib.Core.Bool.{Bool, true, false, ◌&&◌}
use mathlib.Core.Logic.{⊎_elim}
use native.Mathlib.Nat.{le_of_suc-le-suc, not-suc-le-zero, eq-or-lt_of_le}
use lib.Dec.{T, leb, eqb, eqb→eq, leb→le}
use lib.ListN.{length, get_or, take, drop}
use Rattle.notation.specs.Bytes.{same}
use Rattle.notation.specs.Token.{symbols}
use Rattle.notation.specs.SymbolTable.{rows}

and_left : (a b : Bool) → T (a && b) → T a
and_left true b t = tt
and_left false b t = t

and_right : (a b : Bool) → T (a && b) → T b
and_right true b t = t
and_right false b t = absurd t

-- the test passes at every number below n
abbrev pub below : (ℕ → Bool) → ℕ → Bool
below f zero = true
below f (suc n) = f n && below f n

pub below_at : (f : ℕ → Bool) (n : ℕ) → T (below f n) → (k : ℕ) → k < n → T (f k)
below_at f zero t k h = absurd (not-suc-le-zero h)
below_at f (suc n) t k h =
    ⊎_elim (λ e. subst (λ (m : ℕ). T (f m)) (sym e) (and_left (f n) (below f n) t))
    (λ l. below_at f n (and_right (f n) (below f n) t) k l) (eq-or-lt_of_le (le_of_suc-le-suc h))

pub same→eq : (xs ys : List ℕ) → T (same xs ys) → xs ≡ ys
unfolding same
same→eq [] [] t = refl
same→eq [] (y ∷ ys) t = absurd t
same→eq (x ∷ xs) [] t = absurd t
same→eq (x ∷ xs) (y ∷ ys) t = go (eqb x y) refl (same→eq xs ys) t
  where
    go : (b : Bool) → eqb x y ≡ b → (T (same xs ys) → xs ≡ ys) → T (elim b [ true ↦ same xs ys | false ↦ false ]) → Path (List ℕ) (x ∷ xs) (y ∷ ys)
    go true e rest t =
        let p : x ≡ y = eqb→eq x y (subst T (sym e) tt) in
        let q : xs ≡ ys = rest t in
        cc
    go false e rest t = absurd t

-- ── the table of the reserved words
abbrev words : List ℕ
words = rows (take 11 symbols)

abbrev row_length : ℕ → ℕ
row_length k = get_or words (k * 7) 0

module _ (k : ℕ) (h : k < 11) where
  row_length_lem : row_length k ≤ 6
  unfolding symbols
  row_length_lem = leb→le (row_length k) 6 (below_at (λ k. leb (row_length k) 6) 11 tt k h)

  row_word : take (row_length k) (drop (k * 7 + 1) words) ≡ get_or symbols k []
  unfolding symbols same
  row_word = same→eq _ _ (below_at (λ k. same (take (row_length k) (drop (k * 7 + 1) words)) (get_or symbols k [])) 11 tt k h)

-- the same of any bytes that are the table
module _ (t : List ℕ) (e : t ≡ words) where
  pub table_long : length t ≡ 77
  unfolding symbols
  table_long = ap length e

  pub table_row : (k : ℕ) → k < 11 → get_or t (k * 7) 0 ≤ 6
  table_row k h = subst (λ l. get_or l (k * 7) 0 ≤ 6) (sym e) (row_length_lem k h)

  pub table_word : (k : ℕ) → k < 11 → take (get_or t (k * 7) 0) (drop (k * 7 + 1) t) ≡ get_or symbols k []
  table_word k h = subst (λ l. take (get_or l (k * 7) 0) (drop (k * 7 + 1) l) ≡ get_or symbols k []) (sym e) (row_word k h)
