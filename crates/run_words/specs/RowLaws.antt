-- Laws of the rows that words make.
use Rattle.std.specs.Prelude.{ℕ, suc, ◌+◌, ◌-◌, ◌*◌, ◌/◌, ◌%◌, ◌≤◌, ◌<◌, [], ◌∷◌, ◌++◌, ◌≡◌, set}
use Rattle.std.proofs.Common.{ap, ◌∙◌, arith, mul-suc, mul-le-mul_left}
use Rattle.std.proofs.Math.Decide.{dec_lt}
use Rattle.run_words.specs.Lists.{insert_at, remove_at}
use Rattle.run_words.specs.ListLaws.{tab_same, tab_set, tab_insert, tab_remove, tab_append}
use Rattle.run_words.specs.Raw.{rows, end_of, outside_of, end_by, channel_radix}

-- a row is read from its own words alone
pub record Local {A : Type 0} (read : (ℕ → ℕ) → A) (width : ℕ) (w : ℕ → ℕ) : Type 0 where
  pub same : (v : ℕ → ℕ) → ((t : ℕ) → t < width → v t ≡ w t) → read v ≡ read w

pub end_of_lem : (v : ℕ → ℕ) {a b : ℕ} → v 0 ≡ a → v 1 ≡ b → end_of v ≡ end_by a b
end_of_lem v p q = λ i. end_by (p i) (q i)

pub outside_of_lem : (v : ℕ → ℕ) {a b : ℕ} → v 0 ≡ a → v 1 ≡ b → outside_of v ≡ record { number = a; node = b / channel_radix; channel = b % channel_radix }
outside_of_lem v p q = λ i. record { number = p i; node = q i / channel_radix; channel = q i % channel_radix }

pub end_local : (w : ℕ → ℕ) → Local end_of 2 w
end_local w = record { same = λ v e. end_of_lem v (e 0 (omega arith)) (e 1 (omega arith)) }

pub outside_local : (w : ℕ → ℕ) → Local outside_of 2 w
outside_local w = record { same = λ v e. outside_of_lem v (e 0 (omega arith)) (e 1 (omega arith)) }

-- rows that are apart
apart : (width j k : ℕ) → j < k → width * j + width ≤ width * k
apart width j k h = omega (arith, mul-le-mul_left {m = suc j} {n = k} width h, mul-suc width j)

module _ {A : Type 0} (read : (ℕ → ℕ) → A) (width first : ℕ) (old new : ℕ → ℕ) (n : ℕ) (local : (j : ℕ) → j < n → Local read width (λ t. old (first + width * j + t))) where
  row_same : (i j : ℕ) → j < n → ((t : ℕ) → t < width → new (first + width * i + t) ≡ old (first + width * j + t)) → read (λ t. new (first + width * i + t)) ≡ read (λ t. old (first + width * j + t))
  row_same i j l e = (local j l).same (λ t. new (first + width * i + t)) e

  pub rows_same : ((k : ℕ) → first ≤ k → k < first + width * n → new k ≡ old k) → rows read width first n new ≡ rows read width first n old
  rows_same e = tab_same _ _ n (λ j l. row_same j j l (λ t b. e _ (omega arith) (omega (arith, apart width j n l))))

  module _ (k : ℕ) (below : (j : ℕ) → first ≤ j → j < first + width * k → new j ≡ old j) where
    low : (j : ℕ) → k ≤ n → j < k → read (λ t. new (first + width * j + t)) ≡ read (λ t. old (first + width * j + t))
    low j h l = row_same j j (omega arith) (λ t b. below _ (omega arith) (omega (arith, apart width j k l)))

    pub rows_set : (x : A) → k < n → read (λ t. new (first + width * k + t)) ≡ x
        → ((j : ℕ) → first + width * k + width ≤ j → j < first + width * n → new j ≡ old j) → rows read width first n new ≡ set (rows read width first n old) k x
    rows_set x h e above = tab_set _ _ n k x h e (λ j l q. at j l q (dec_lt j k))
      where
        at : (j : ℕ) → j < n → (j ≡ k → ⊥) → Dec (j < k) → read (λ t. new (first + width * j + t)) ≡ read (λ t. old (first + width * j + t))
        at j l q (yes a) = low j (omega arith) a
        at j l q (no a) = row_same j j l (λ t b. above _ (omega (arith, apart width k j (omega arith))) (omega (arith, apart width j n l)))

    pub rows_append : (m : ℕ) (x : A) → k ≡ n → m ≡ suc n → read (λ t. new (first + width * n + t)) ≡ x → rows read width first m new ≡ rows read width first n old ++ (x ∷ [])
    rows_append m x p q e = tab_append _ _ n m x q e (λ j l. low j (omega arith) (omega arith))

    pub rows_insert : (m : ℕ) (x : A) → m ≡ suc n → k ≤ n → read (λ t. new (first + width * k + t)) ≡ x
        → ((j : ℕ) → first + width * k + width ≤ j → j < first + width * n + width → new j ≡ old (j - width)) → rows read width first m new ≡ insert_at k x (rows read width first n old)
    rows_insert m x q h e above =
        tab_insert _ _ n m k x q h e (λ j l. low j h l)
        (λ j a b. row_same (suc j) j b (λ t c. above _ (omega (arith, apart width k (suc j) (omega arith))) (omega (arith, apart width j n b, apart width j (suc j) (omega arith))) ∙ ap old (omega arith)))

    pub rows_remove : (m : ℕ) → n ≡ suc m → k < n
        → ((j : ℕ) → first + width * k ≤ j → j < first + width * m → new j ≡ old (j + width)) → rows read width first m new ≡ remove_at k (rows read width first n old)
    rows_remove m q h above =
        tab_remove _ _ n m k q h (λ j l. low j (omega arith) l)
        (λ j a b. row_same j (suc j) (omega arith) (λ t c. above _ (omega (arith, mul-le-mul_left {m = k} {n = j} width a)) (omega (arith, apart width j m b)) ∙ ap old (omega (arith, mul-suc width j))))
