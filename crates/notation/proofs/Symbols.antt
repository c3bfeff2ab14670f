-- The search among the reserved words: from one that begins with a letter to the next that does.
use Prim.Native.Nat.{ℕ, suc, ◌+◌, ◌-◌, ◌≤◌, ◌<◌}
use mathlib.Core.Path.{◌≡◌, refl, sym, ap, subst, ◌∙◌}
use mathlib.Core.List.{List, [], ◌∷◌}
use mathlib.Core.Bool.{Bool, true, false, false≢true, not, ◌||◌}
use native.Mathlib.Nat.{le_refl}
use native.Mathlib.Decide.{dec_lt}
use native.Mathlib.Omega.{arith}
use lib.Dec.{T, leb, eqb, eqb→eq, leb→le}
use lib.ListN.{length, get_or, take, drop, length-drop}
use lib.Seq.{drop-drop, get_or-drop}
use borrow.Author.Tests.{eq-eqb, lt-leb}
use Rattle.notation.specs.Bytes.{letter, name_byte, bytes, position, same}
use Rattle.notation.specs.Token.{symbols, symbol, name_at}
use Rattle.notation.specs.SymbolTable.{beginning}
use Rattle.notation.proofs.ByteTables.{below, below_at, same→eq}
use Rattle.notation.proofs.Names.{name_more, name_long}
use Rattle.notation.proofs.Scans.{Scan, scan_next, scan_hit, scan_end}
use Rattle.notation.proofs.Tokens.{find_case, find_ge, find_le, find_at, symbol_all, symbol_most}

-- ── a search may leap over what fails a weaker test
module _ {A : Type 0} (p q : A → Bool) (weaker : (x : A) → q x ≡ false → p x ≡ false) where
  find_past : (x : A) (xs : List A) (k : ℕ) → p x ≡ false → position p xs (suc k) ≡ position p (x ∷ xs) k
  unfolding position
  find_past x xs k e = rw (position, e)

  find_leap : (xs : List A) (k : ℕ) → position p (drop (position q xs k - k) xs) (position q xs k) ≡ position p xs k
  unfolding position
  find_leap [] k = let z : k - k ≡ 0 = omega arith in rw z
  find_leap (x ∷ xs) k =
      find_case q (λ j. position p (drop (j - k) (x ∷ xs)) j ≡ position p (x ∷ xs) k) x xs k
      (λ _. let z : k - k ≡ 0 = omega arith in rw z)
      (λ e.
      let g = find_ge q xs (suc k) in
      let z : position q xs (suc k) - k ≡ suc (position q xs (suc k) - suc k) = omega arith in
      rw z (find_leap xs (suc k) ∙ find_past x xs k (weaker x e)))

  scan_leap : (xs : List A) (at i : ℕ) → Scan p xs at i → Scan p xs at (position q (drop i xs) i)
  scan_leap xs at i v =
      let j = position q (drop i xs) i in
      let g = find_ge q (drop i xs) i in
      let z : i + (j - i) ≡ j = omega arith in
      let d : drop (j - i) (drop i xs) ≡ drop j xs = drop-drop (j - i) i xs ∙ ap (λ m. drop m xs) z in
      record { left = ap (λ l. position p l j) (sym d) ∙ find_leap (drop i xs) i ∙ v.left }

-- ── the symbols
beginning_most : (b k : ℕ) → k ≤ 30 → beginning b k ≤ 30
unfolding beginning symbols
beginning_most b k h = omega (arith, find_le (λ v. eqb b (get_or v 0 0)) (drop k symbols) k, length-drop k symbols)

-- a symbol that begins with another byte is not w
otherwise : (w v : List ℕ) → eqb (get_or w 0 0) (get_or v 0 0) ≡ false → same w v ≡ false
otherwise w v e = go (same w v) refl
  where
    go : (t : Bool) → same w v ≡ t → t ≡ false
    go true r =
        let q : w ≡ v = same→eq w v (subst T (sym r) tt) in
        absurd (false≢true (sym e ∙ eq-eqb (get_or w 0 0) (get_or v 0 0) (ap (λ l. get_or l 0 0) q)))
    go false r = refl

-- w is none of the symbols before the k-th, which begins as w does
pub record Sought (w : List ℕ) (k : ℕ) : Type 0 where
  pub most : k ≤ 30
  pub scan : Scan (same w) symbols 0 k
  pub begins : k < 30 → get_or w 0 0 ≡ get_or (get_or symbols k []) 0 0

sought : (w : List ℕ) (i : ℕ) → i ≤ 30 → Scan (same w) symbols 0 i → Sought w (beginning (get_or w 0 0) i)
unfolding beginning symbols
sought w i h v =
    let q : List ℕ → Bool = λ v. eqb (get_or w 0 0) (get_or v 0 0) in
    let j = position q (drop i symbols) i in
    let g = find_ge q (drop i symbols) i in
    record {
      most = beginning_most (get_or w 0 0) i h;
      scan = scan_leap (same w) q (otherwise w) symbols 0 i v;
      begins = λ l.
          let z : i + (j - i) ≡ j = omega arith in
          let t : q (get_or (drop i symbols) (j - i) []) ≡ true = find_at q [] (drop i symbols) i (omega (arith, length-drop i symbols)) in
          let e : get_or (drop i symbols) (j - i) [] ≡ get_or symbols j [] = get_or-drop i symbols (j - i) [] ∙ ap (λ m. get_or symbols m []) z in
          eqb→eq (get_or w 0 0) (get_or (get_or symbols j []) 0 0) (subst T (sym (ap q (sym e) ∙ t)) tt);
    }

pub sought_from : (w : List ℕ) (k : ℕ) → k ≡ beginning (get_or w 0 0) 0 → Sought w k
unfolding symbols
sought_from w k e = subst (Sought w) (sym e) (sought w 0 (omega arith) (record { left = refl }))

-- past the reserved words are the marks, which begin with no letter
past_words : (k : ℕ) → k < 30 → 10 < k → T (not (letter (get_or (get_or symbols k []) 0 0)))
unfolding symbols letter
past_words k l h = rw (lt-leb k 10 h) at (below_at (λ k. leb k 10 || not (letter (get_or (get_or symbols k []) 0 0))) 30 tt k l)

module _ (w : List ℕ) (k : ℕ) (v : Sought w k) where
  pub sought_next : (j : ℕ) → k < 30 → same w (get_or symbols k []) ≡ false → j ≡ beginning (get_or (get_or symbols k []) 0 0) (k + 1) → Sought w j
  unfolding symbols
  sought_next j h e f =
      let z : j ≡ beginning (get_or w 0 0) (k + 1) = f ∙ ap (λ c. beginning c (k + 1)) (sym (v.begins h)) in
      subst (Sought w) (sym z) (sought w (k + 1) (omega arith) (scan_next v.scan [] h e))

  pub sought_hit : k < 30 → same w (get_or symbols k []) ≡ true → k ≡ symbol w
  unfolding symbols symbol
  sought_hit h e = scan_hit v.scan [] h e

  pub sought_end : letter (get_or w 0 0) ≡ true → 10 < k → k ≡ symbol w
  unfolding symbols symbol letter
  sought_end e h = go (dec_lt k 30)
    where
      go : Dec (k < 30) → k ≡ symbol w
      go (yes l) = absurd (subst (λ b. T (not b)) (ap letter (sym (v.begins l)) ∙ e) (past_words k l h))
      go (no l) = scan_end v.scan (omega arith)

-- ── the places in the code: what is so for every number but the listed ones
abbrev pub among : ℕ → List ℕ → Bool
among b [] = false
among b (k ∷ ks) = eqb b k || among b ks

other_than : (f : ℕ → ℕ) (p : ℕ → Bool) (v n : ℕ) → T (below (λ b. p b || eqb v (f b)) n) → (b : ℕ) → b < n → p b ≡ false → v ≡ f b
other_than f p v n t b h e = eqb→eq v (f b) (subst T (ap (λ a. a || eqb v (f b)) e) (below_at (λ b. p b || eqb v (f b)) n t b h))

abbrev pub first_letters : List ℕ
first_letters = bytes "tpesrfc"

pub begins_none : (b : ℕ) → b < 256 → letter b ≡ true → among b first_letters ≡ false → 30 ≡ beginning b 0
unfolding beginning symbols position letter
begins_none b h l e = other_than (λ b. beginning b 0) (λ b. not (letter b) || among b first_letters) 30 256 tt b h (rw (l, e))

abbrev pub followed : List ℕ
followed = 0 ∷ 4 ∷ 6 ∷ 7 ∷ []

pub follows_none : (k : ℕ) → k < 11 → among k followed ≡ false → 30 ≡ beginning (get_or (get_or symbols k []) 0 0) (k + 1)
unfolding beginning symbols position
follows_none k h e = other_than (λ k. beginning (get_or (get_or symbols k []) 0 0) (k + 1)) (λ k. among k followed) 30 11 tt k h e

-- ── what is no symbol
pub no_symbol : (w : List ℕ) → (symbol w < 30 → ⊥) → 30 ≡ symbol w
no_symbol w n = omega (arith, symbol_most w)

-- what begins with a letter is a reserved word only where it has three to six bytes
module _ (w : List ℕ) (l : symbol w < 30) where
  pub word_least : letter (get_or w 0 0) ≡ true → 3 ≤ length w
  unfolding symbols letter
  word_least e = leb→le 3 (length w) (rw e at (symbol_all (λ _ v. not (letter (get_or v 0 0)) || leb 3 (length v)) 30 (le_refl 30) tt w l))

  pub word_most : length w ≤ 6
  unfolding symbols
  word_most = leb→le (length w) 6 (symbol_all (λ _ v. leb (length v) 6) 30 (le_refl 30) tt w l)

-- ── the name of n bytes that begins with a letter at i
module _ (s : List ℕ) (i n : ℕ) (e : letter (get_or s i 0) ≡ true) (z : n ≡ length (name_at s i)) where
  name_begins : get_or (name_at s i) 0 0 ≡ get_or s i 0
  unfolding name_byte
  name_begins = ap (λ l. get_or l 0 0) (name_more s i (rw e))

  pub word_short : n < 3 → 30 ≡ symbol (name_at s i)
  word_short h = no_symbol (name_at s i) (λ l. omega (arith, word_least (name_at s i) l (ap letter name_begins ∙ e)))

  pub word_long : 6 < n → 30 ≡ symbol (name_at s i)
  word_long h = no_symbol (name_at s i) (λ l. omega (arith, word_most (name_at s i) l))

  pub word_bytes : take n (drop i s) ≡ name_at s i
  unfolding name_at
  word_bytes = ap (λ m. take m (drop i s)) (z ∙ sym (name_long s i))

  -- its bytes, and the first word that begins as they do
  pub word_begins : (w : List ℕ) (b k : ℕ) → w ≡ name_at s i → b ≡ get_or s i 0 → k ≡ beginning b 0 → (letter (get_or w 0 0) ≡ true) × (k ≡ beginning (get_or w 0 0) 0)
  word_begins w b k p q r =
      let first : get_or w 0 0 ≡ get_or s i 0 = ap (λ l. get_or l 0 0) p ∙ name_begins in
      (ap letter first ∙ e, r ∙ ap (λ c. beginning c 0) (q ∙ sym first))
