-- No two offsets of a text have one line and column: each stands later than those before it.
use Rattle.std.specs.Prelude.{ℕ, zero, suc, ◌≤◌, ◌<◌, ◌≡◌, refl, ◌⊎◌, List, [], ◌∷◌, length, take}
use Rattle.std.proofs.Common.{sym, ap, ◌∙◌, inl, inr, arith}
use Rattle.call_positions.specs.Position.{first, advanced, along, position_at}
use Rattle.call_positions.specs.Cases.{advanced_cases}
use Rattle.call_positions.specs.declared.position.Position.{Position}

-- on a later line, or later on the same one
abbrev pub Later : Position → Position → Type 0
Later p q = (p.line < q.line) ⊎ ((p.line ≡ q.line) × (p.column < q.column))

later_trans : {p q r : Position} → Later p q → Later q r → Later p r
later_trans (inl a) (inl b) = inl (omega (arith, a, b))
later_trans (inl a) (inr (b, c)) = inl (omega (arith, a, b))
later_trans (inr (a, b)) (inl c) = inl (omega (arith, a, c))
later_trans (inr (a, b)) (inr (c, d)) = inr (a ∙ c, omega (arith, b, d))

later_apart : {p q : Position} → Later p q → p ≡ q → ⊥
later_apart (inl a) e = omega (arith, a, ap (λ p. p.line) e)
later_apart (inr (a, b)) e = omega (arith, b, ap (λ p. p.column) e)

advanced_later : (p : Position) (b : ℕ) → Later p (advanced p b)
advanced_later p b = advanced_cases (Later p) p b (inl (omega arith)) (inr (refl, omega arith))

-- past some bytes, and one more at least
along_later : (i j : ℕ) (s : List ℕ) (p : Position) → i < j → j ≤ length s → Later (along (take i s) p) (along (take j s) p)
unfolding along
along_later i zero s p h l = absurd (omega (arith, h))
along_later i (suc j) [] p h l = absurd (omega (arith, l))
along_later zero (suc zero) (b ∷ s) p h l = advanced_later p b
along_later zero (suc (suc j)) (b ∷ s) p h l = later_trans (advanced_later p b) (along_later zero (suc j) s (advanced p b) (omega arith) (omega (arith, l)))
along_later (suc i) (suc j) (b ∷ s) p h l = along_later i j s (advanced p b) (omega (arith, h)) (omega (arith, l))

pub positions_later : (s : List ℕ) (i j : ℕ) → i < j → j ≤ length s → Later (position_at s i) (position_at s j)
unfolding position_at
positions_later s i j h l = along_later i j s first h l

pub positions_apart : (s : List ℕ) (i j : ℕ) → i ≤ length s → j ≤ length s → position_at s i ≡ position_at s j → i ≡ j
positions_apart s i j h l e = by (compared i j)
  where
    compared : (i j : ℕ) → (i < j) ⊎ ((j < i) ⊎ (i ≡ j))
    compared zero zero = inr (inr refl)
    compared zero (suc j) = inl (omega arith)
    compared (suc i) zero = inr (inl (omega arith))
    compared (suc i) (suc j) = further (compared i j)
      where
        further : (i < j) ⊎ ((j < i) ⊎ (i ≡ j)) → (suc i < suc j) ⊎ ((suc j < suc i) ⊎ (suc i ≡ suc j))
        further (inl h) = inl (omega (arith, h))
        further (inr (inl h)) = inr (inl (omega (arith, h)))
        further (inr (inr e)) = inr (inr (ap suc e))

    by : (i < j) ⊎ ((j < i) ⊎ (i ≡ j)) → i ≡ j
    by (inl k) = absurd (later_apart (positions_later s i j k l) e)
    by (inr (inl k)) = absurd (later_apart (positions_later s j i k h) (sym e))
    by (inr (inr f)) = f
