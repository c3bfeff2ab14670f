-- A number's digits, made from the last one on.
use Rattle.std.specs.Prelude.{ℕ, zero, suc, ◌+◌, ◌-◌, ◌/◌, ◌%◌, ◌≤◌, ◌<◌, ◌≡◌, List, ◌∷◌, true, false, length, set, drop}
use Rattle.std.proofs.Common.{sym, ◌∙◌, ap, subst, arith, length-set, drop-cons, drop-set-lt, get_or-set_same, lt-ltb, le-ltb}
use Rattle.calculus.specs.Printed.{digits, decimal}

-- n's digits are those of d from `first` on
pub record Spelled (n : ℕ) (d : List ℕ) (first : ℕ) : Type 0 where
  pub is : drop first d ≡ decimal n
  pub within : first ≤ 10
  pub long : length d ≡ 10

-- another digit, and the first one
digits_more : (k i : ℕ) (l : List ℕ) → 10 ≤ i → digits (suc k) i l ≡ digits k (i / 10) ((48 + i % 10) ∷ l)
unfolding digits
digits_more k i l h = ap (λ b. elim b [ true ↦ (48 + i) ∷ l | false ↦ digits k (i / 10) ((48 + i % 10) ∷ l) ]) (le-ltb i 10 h)

digits_first : (k i : ℕ) (l : List ℕ) → i < 10 → digits (suc k) i l ≡ (48 + i) ∷ l
unfolding digits
digits_first k i l h = ap (λ b. elim b [ true ↦ (48 + i) ∷ l | false ↦ digits k (i / 10) ((48 + i % 10) ∷ l) ]) (lt-ltb i 10 h)

-- ── the loop: n's digits from `first` on stand in d, and `left` is the number of those before them
pub record Spelling (n : ℕ) (d : List ℕ) (first left : ℕ) : Type 0 where
  pub is : decimal n ≡ digits first left (drop first d)
  pub within : first ≤ 10
  pub long : length d ≡ 10

-- no more than ten
pub spelling_full : (n : ℕ) (d : List ℕ) (first left : ℕ) → Spelling n d first left → first ≤ 0 → Spelled n d 0
unfolding digits
spelling_full n d zero left s h = record { is = sym s.is; within = omega arith; long = s.long }
spelling_full n d (suc k) left s h = absurd (omega arith)

module _ (n : ℕ) (d : List ℕ) (left b : ℕ) (e : b ≡ 48 + left % 10) where
  -- d with the digit b at k
  laid : (k : ℕ) → Spelling n d (suc k) left → drop k (set d k b) ≡ (48 + left % 10) ∷ drop (suc k) d
  laid k s =
      drop-cons (set d k b) k 0 (omega (arith, length-set d k b, s.within, s.long))
      ∙ λ i. (get_or-set_same d k b 0 (omega (arith, s.within, s.long)) ∙ e) i ∷ drop-set-lt (suc k) d k b (omega arith) i

  next_from : (k : ℕ) → Spelling n d (suc k) left → 10 ≤ left → Spelling n (set d k b) k (left / 10)
  next_from k s h = record {
    is = s.is ∙ digits_more k left (drop (suc k) d) h ∙ ap (digits k (left / 10)) (sym (laid k s));
    within = omega (arith, s.within);
    long = length-set d k b ∙ s.long;
  }

  last_from : (k : ℕ) → Spelling n d (suc k) left → left < 10 → Spelled n (set d k b) k
  last_from k s h =
      let z : 48 + left % 10 ≡ 48 + left = omega (arith, h) in
      record {
        is = laid k s ∙ ap (λ x. x ∷ drop (suc k) d) z ∙ sym (s.is ∙ digits_first k left (drop (suc k) d) h);
        within = omega (arith, s.within);
        long = length-set d k b ∙ s.long;
      }

  -- one digit more
  pub spelling_next : (first : ℕ) → Spelling n d first left → 0 < first → 10 ≤ left → Spelling n (set d (first - 1) b) (first - 1) (left / 10)
  spelling_next zero s p h = absurd (omega arith)
  spelling_next (suc k) s p h = let z : k ≡ suc k - 1 = omega arith in subst (λ j. Spelling n (set d j b) j (left / 10)) z (next_from k s h)

  -- the first digit is the last one made
  pub spelling_last : (first : ℕ) → Spelling n d first left → 0 < first → left < 10 → Spelled n (set d (first - 1) b) (first - 1)
  spelling_last zero s p h = absurd (omega arith)
  spelling_last (suc k) s p h = let z : k ≡ suc k - 1 = omega arith in subst (λ j. Spelled n (set d j b) j) z (last_from k s h)
