-- Where tokens lie: past their offset, within the text.
use Prim.Native.Nat.{ℕ, suc, ◌+◌, ◌-◌, ◌≤◌, ◌<◌, min}
use mathlib.Core.Path.{◌≡◌, refl, sym, ◌∙◌, ap, subst}
use mathlib.Core.List.{List, [], ◌∷◌}
use mathlib.Core.Logic.{◌⊎◌, inl, inr}
use mathlib.Core.Bool.{Bool, true, false, false≢true, not, cond}
use native.Mathlib.Nat.{le_refl, eq-or-lt_of_le}
use native.Mathlib.Decide.{dec_lt}
use native.Mathlib.Omega.{arith}
use lib.Dec.{T, leb, ltb, eqb, leb→le}
use lib.ListN.{length, get_or, take, drop, length-drop, length-take, get_or-eq_default}
use lib.Seq.{drop-cons}
use borrow.Author.Tests.{ltb-true}
use Rattle.notation.specs.Bytes.{letter, name_byte, blank, position, same}
use Rattle.notation.specs.Token.{symbols, symbol, skip, name_end, name_at, name_token, word_at, label_at, mark_at, first_at, token_at}
use Rattle.notation.specs.Onward.{width, Onward}
use Rattle.notation.specs.declared.token.Token.{Token}
use Rattle.notation.proofs.ByteTables.{below, below_at, same→eq}

module _ {A : Type 0} (p : A → Bool) where
  pub find_case : (P : ℕ → Type 0) (x : A) (xs : List A) (k : ℕ) → (p x ≡ true → P k) → (p x ≡ false → P (position p xs (suc k))) → P (position p (x ∷ xs) k)
  unfolding position
  find_case P x xs k f g = go (p x) refl
    where
      go : (b : Bool) → p x ≡ b → P (elim b [ true ↦ k | false ↦ position p xs (suc k) ])
      go true e = f e
      go false e = g e

  pub find_ge : (xs : List A) (k : ℕ) → k ≤ position p xs k
  unfolding position
  find_ge [] k = le_refl k
  find_ge (x ∷ xs) k = find_case (λ j. k ≤ j) x xs k (λ _. le_refl k) (λ _. omega (arith, find_ge xs (suc k)))

  pub find_le : (xs : List A) (k : ℕ) → position p xs k ≤ k + length xs
  unfolding position
  find_le [] k = omega arith
  find_le (x ∷ xs) k = find_case (λ j. j ≤ k + length (x ∷ xs)) x xs k (λ _. omega arith) (λ _. omega (arith, find_le xs (suc k)))

  pub find_at : (d : A) (xs : List A) (k : ℕ) → position p xs k < k + length xs → p (get_or xs (position p xs k - k) d) ≡ true
  unfolding position
  find_at d [] k = λ h. absurd (omega arith)
  find_at d (x ∷ xs) k =
      find_case (λ j. j < k + length (x ∷ xs) → p (get_or (x ∷ xs) (j - k) d) ≡ true) x xs k
      (λ e h. let z : k - k ≡ 0 = omega arith in rw z e)
      (λ e h.
      let l : suc k ≤ position p xs (suc k) = find_ge xs (suc k) in
      let z : position p xs (suc k) - k ≡ suc (position p xs (suc k) - suc k) = omega arith in
      rw z (find_at d xs (suc k) (omega arith)))

-- what holds of each of two cases holds of the one that a test picks
pub cond_both : {A : Type 0} (P : A → Type 0) (b : Bool) (x y : A) → (b ≡ true → P x) → (b ≡ false → P y) → P (cond b x y)
cond_both P true x y f g = f refl
cond_both P false x y f g = g refl

-- a token whose first byte stands at i lies within the text
abbrev Goes : ℕ → ℕ → Token → Type 0
Goes i n t = (t.start ≡ i) × (t.end ≤ n) × (t.kind < 32 → i + width t.kind ≤ t.end)

-- bytes that are a symbol are that of their kind
symbol_is : (w : List ℕ) → symbol w < 30 → w ≡ get_or symbols (symbol w) []
unfolding symbol symbols
symbol_is w l =
    let z : symbol w - 0 ≡ symbol w = omega arith in
    rw z at (same→eq w (get_or symbols (symbol w - 0) []) (subst T (sym (find_at (same w) [] symbols 0 (omega arith))) tt))

-- what a test says of the first n symbols it says of bytes that are one of them
pub symbol_all : (p : ℕ → List ℕ → Bool) (n : ℕ) → n ≤ 30 → T (below (λ k. p k (get_or symbols k [])) n) → (w : List ℕ) → symbol w < n → T (p (symbol w) w)
symbol_all p n le t w l =
    subst (λ v. T (p (symbol w) v)) (sym (symbol_is w (omega arith))) (below_at (λ k. p k (get_or symbols k [])) n t (symbol w) l)

symbol_wide : (w : List ℕ) → symbol w < 30 → width (symbol w) ≤ length w
unfolding symbols
symbol_wide w l = leb→le _ _ (symbol_all (λ k v. leb (width k) (length v)) 30 (le_refl 30) tt w l)

symbol_two : (w : List ℕ) → symbol w < 14 → 2 ≤ length w
unfolding symbols
symbol_two w l = leb→le _ _ (symbol_all (λ _ v. leb 2 (length v)) 14 (omega arith) tt w l)

pub symbol_most : (w : List ℕ) → symbol w ≤ 30
unfolding symbol symbols
symbol_most w = find_le (same w) symbols 0

module _ (s : List ℕ) (i : ℕ) (h : i < length s) where
  named_goes : (k f e : ℕ) → i + width k ≤ e → e ≤ length s → Goes i (length s) (name_token k i f e)
  unfolding name_token
  named_goes k f e l m =
      cond_both (λ j. (i ≡ i) × (e ≤ length s) × (j < 32 → i + width j ≤ e)) (leb (e - f) 32) k 32
      (λ _. (refl, m, λ _. l))
      (λ _. (refl, m, λ z. absurd (omega arith)))

  end_ge : (j : ℕ) → j ≤ name_end s j
  unfolding name_end
  end_ge j = find_ge (λ b. not (name_byte b)) (drop j s) j

  end_le : (j : ℕ) → j ≤ length s → name_end s j ≤ length s
  unfolding name_end
  end_le j l = let z : length (drop j s) ≡ length s - j = length-drop j s in omega (arith, find_le (λ b. not (name_byte b)) (drop j s) j)

  letter_goes : (j : ℕ) → j < length s → letter (get_or s j 0) ≡ true → j < name_end s j
  unfolding name_end position name_byte
  letter_goes j l e = rw (drop-cons s j 0, position, e) (find_ge (λ b. not (name_byte b)) (drop (suc j) s) (suc j))

  -- past the text there is no letter
  letter_in : (j : ℕ) → letter (get_or s j 0) ≡ true → j < length s
  unfolding letter
  letter_in j e = go (dec_lt j (length s))
    where
      go : Dec (j < length s) → j < length s
      go (yes l) = l
      go (no n) = absurd (false≢true (sym (ap letter (get_or-eq_default s 0 (omega arith))) ∙ e))

  word_wide : (w : List ℕ) (e : ℕ) → i < e → length w ≤ e - i → i + width (symbol w) ≤ e
  word_wide w e l m = go (eq-or-lt_of_le (symbol_most w))
    where
      go : (symbol w ≡ 30) ⊎ (symbol w < 30) → i + width (symbol w) ≤ e
      go (inl z) = subst (λ k. i + width k ≤ e) (sym z) (omega arith)
      go (inr z) = omega (arith, symbol_wide w z)

  mark_in : (n : ℕ) → symbol (take n (drop i s)) < 30 → width (symbol (take n (drop i s))) ≤ min n (length s - i)
  mark_in n l = omega (arith, symbol_wide _ l, length-take n (drop i s), length-drop i s)

  first_goes : Goes i (length s) (first_at s i)
  unfolding first_at word_at label_at mark_at name_at
  first_goes =
      cond_both (Goes i (length s)) (letter (get_or s i 0)) _ _
      (λ e. named_goes _ _ (name_end s i) (word_wide _ _ (letter_goes i h e) (omega (arith, length-take (name_end s i - i) (drop i s)))) (end_le i (omega arith)))
      (λ _. cond_both (Goes i (length s)) (eqb (get_or s i 0) 39) _ _
      (λ _. cond_both (Goes i (length s)) (letter (get_or s (i + 1) 0)) _ _
      (λ e. let l = letter_in (i + 1) e in named_goes _ _ (name_end s (i + 1)) (omega (arith, letter_goes (i + 1) l e)) (end_le (i + 1) (omega arith)))
      (λ _. (refl, omega arith, λ z. absurd (omega arith))))
      (λ _. cond_both (Goes i (length s)) (ltb (symbol (take 2 (drop i s))) 14) _ _
      (λ e.
      let l = ltb-true _ _ e in
      let w = mark_in 2 (omega arith) in
      let t = symbol_two (take 2 (drop i s)) l in
      (refl, omega (arith, length-take 2 (drop i s), length-drop i s), λ _. omega arith))
      (λ _. cond_both (Goes i (length s)) (ltb (symbol (take 1 (drop i s))) 30) _ _
      (λ e. let w = mark_in 1 (ltb-true _ _ e) in (refl, omega arith, λ _. omega arith))
      (λ _. (refl, omega arith, λ z. absurd (omega arith))))))

-- a token begins where its first byte stands
pub first_start : (s : List ℕ) (i : ℕ) → i < length s → (first_at s i).start ≡ i
first_start s i h = (first_goes s i h).0

pub skip_ge : (s : List ℕ) (at : ℕ) → at ≤ skip s at
unfolding skip
skip_ge s at = find_ge (λ b. not (blank b)) (drop at s) at

pub token_onward : (s : List ℕ) (at : ℕ) → Onward s at (token_at s at)
unfolding token_at
token_onward s at =
    cond_both (Onward s at) (ltb (skip s at) (length s)) _ _
    (λ e.
    let l = ltb-true _ _ e in
    let r = first_goes s (skip s at) l in
    let m = skip_ge s at in
    record { starts = omega (arith, r.0); ends = r.1; goes = λ k. (omega (arith, r.2 k), omega (arith, r.0)) })
    (λ _. record { starts = le_refl _; ends = le_refl _; goes = λ k. absurd (omega arith) })

-- what is the token lies so
pub lies_onward : (s : List ℕ) (at : ℕ) (t : Token) → t ≡ token_at s at → (t ≡ token_at s at) × Onward s at t
lies_onward s at t e = (e, subst (Onward s at) (sym e) (token_onward s at))
