-- Lists laid into words that are zero: one law for what was seen, for what is listed and for the answer itself.
use Rattle.std.specs.Prelude.{ℕ, zero, suc, ◌+◌, ◌-◌, ◌≤◌, ◌≡◌, refl, List, [], ◌∷◌, ◌++◌, length, get_or, take, drop, replicate}
use Rattle.std.proofs.Common.{sym, ◌∙◌, ap, append_assoc, arith, length-append, take_all, take_at}
use Rattle.std.proofs.lemmas.List.{length-replicate, replicate-append-replicate}
use Rattle.std.proofs.Math.Seq.{drop-append-add}
use Rattle.print_bytes.specs.Writing.{Putting}
use Rattle.call_words.specs.Words.{answer_words, filled, padded}

-- ── zeros
zeros_as : {n m : ℕ} → n ≡ m → replicate {A = ℕ} n 0 ≡ replicate m 0
zeros_as e = ap (λ k. replicate {A = ℕ} k 0) e

drop_zeros : (k n : ℕ) → drop k (replicate {A = ℕ} n 0) ≡ replicate (n - k) 0
drop_zeros zero n = zeros_as {n = n} {m = n - 0} (omega arith)
drop_zeros (suc k) zero = zeros_as {n = 0} {m = 0 - suc k} (omega arith)
drop_zeros (suc k) (suc n) = drop_zeros k n ∙ zeros_as {n = n - k} {m = suc n - suc k} (omega arith)

-- zeros that are part of a list, or that fill it up
pub filled_up : (n m : ℕ) (p l : List ℕ) → length l ≤ m → length p + m ≤ n → filled n (p ++ filled m l) ≡ filled n (p ++ l)
filled_up n m p l h k =
    let a = replicate {A = ℕ} (m - length l) 0 in
    let e = length-append p (filled m l) in
    let f = length-append l a in
    let g = length-replicate {A = ℕ} (m - length l) 0 in
    let b = n - length (p ++ filled m l) in
    let z : (m - length l) + b ≡ n - length (p ++ l) = omega (arith, e, f, g, length-append p l) in
    ap (λ x. x ++ replicate b 0) (sym (append_assoc p l a))
    ∙ append_assoc (p ++ l) a (replicate b 0)
    ∙ ap (λ x. (p ++ l) ++ x) (replicate-append-replicate (m - length l) b 0 ∙ zeros_as z)

-- a list that is zero from c on
pub filled_from : (c : ℕ) (l : List ℕ) → ((k : ℕ) → c ≤ k → get_or l k 0 ≡ 0) → l ≡ filled (length l) (take c l)
filled_from zero [] z = refl
filled_from zero (x ∷ l) z =
    let e : suc (length l - 0) ≡ suc (length l) - 0 = omega arith in
    (λ j. z 0 (omega arith) j ∷ filled_from zero l (λ k h. z (suc k) (omega arith)) j) ∙ zeros_as e
filled_from (suc c) [] z = refl
filled_from (suc c) (x ∷ l) z =
    let e : length l - length (take c l) ≡ suc (length l) - suc (length (take c l)) = omega arith in
    ap (λ r. x ∷ r) (filled_from c l (λ k h. z (suc k) (omega (arith, h))) ∙ ap (λ r. take c l ++ r) (zeros_as e))

-- ── l is laid where p ends
pub laid_after : (p l : List ℕ) {old new : List ℕ} {at : ℕ} → old ≡ padded p → length p ≡ at → at + length l ≤ answer_words → Putting old new at l (length l) → new ≡ padded (p ++ l)
laid_after p l {old} {new} {at} o e h a =
    let n = answer_words - length p in
    let x : take at old ≡ p = ap (take at) o ∙ take_at p (replicate n 0) at e in
    let y : take (length l) l ≡ l = take_all (length l) l (omega arith) in
    let i : at + length l ≡ length p + length l = omega (arith, e) in
    let j : n - length l ≡ answer_words - length (p ++ l) = omega (arith, length-append p l) in
    let z : drop (at + length l) old ≡ replicate (answer_words - length (p ++ l)) 0 =
    (λ t. drop (i t) (o t)) ∙ drop-append-add p (replicate n 0) (length l) ∙ drop_zeros (length l) n ∙ zeros_as j in
    a.is ∙ λ t. (x t ++ y t) ++ z t

-- ── the words of an answer are written, and the first is handed back
pub record Tells (old new words : List ℕ) (r : ℕ) : Type 0 where
  pub is : new ≡ words ++ drop answer_words old
  pub first : r ≡ get_or words 0 0

pub tells : {old new words : List ℕ} → length words ≡ answer_words → Putting old new 0 words (length words) → Tells old new words (get_or words 0 0)
tells {old} {new} {words} e a =
    let i : 0 + length words ≡ answer_words = omega (arith, e) in
    record { is = a.is ∙ (λ t. take_all (length words) words (omega arith) t ++ drop (i t) old); first = refl }
