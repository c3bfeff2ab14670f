-- The marks, told by a byte and the one after it.
use Prim.Native.Nat.{ℕ, suc, ◌+◌, ◌≤◌, ◌<◌}
use mathlib.Core.Path.{◌≡◌, refl, ap, ◌∙◌}
use mathlib.Core.List.{List, [], ◌∷◌}
use mathlib.Core.Bool.{Bool, true, false, not, cond, ◌||◌}
use native.Mathlib.Nat.{le_refl}
use native.Mathlib.Numerals.{add-one}
use native.Mathlib.Decide.{dec_lt}
use native.Mathlib.Omega.{arith}
use lib.Dec.{leb, ltb, eqb}
use lib.ListN.{length, get_or, take, drop, get_or-eq_default}
use lib.Seq.{drop-cons, get_or-take, get_or-drop}
use borrow.Author.Tests.{lt-leb, le-ltb, ne_eqb}
use Rattle.notation.specs.Bytes.{bytes, position, same}
use Rattle.notation.specs.Token.{symbols, symbol, mark_at, token}
use Rattle.notation.specs.declared.token.Token.{Token}
use Rattle.notation.proofs.Tokens.{symbol_all}
use Rattle.notation.proofs.Symbols.{among, no_symbol}

-- the mark of two bytes, else that of the first
abbrev pub mark_of : ℕ → ℕ → ℕ
mark_of b next = cond (ltb (symbol (b ∷ next ∷ [])) 14) (symbol (b ∷ next ∷ [])) (symbol (b ∷ []))

abbrev pub mark_bytes : List ℕ
mark_bytes = bytes "()[]{}:,;|1*@+&=-<"

-- one or two bytes are a symbol only where the first begins a mark
no_mark : (w : List ℕ) → length w ≤ 2 → among (get_or w 0 0) mark_bytes ≡ false → 30 ≡ symbol w
unfolding symbols
no_mark w h e =
    let long : leb 3 (length w) ≡ false = lt-leb 3 (length w) (omega arith) in
    no_symbol w (λ l. rw (long, e) at (symbol_all (λ _ v. leb 3 (length v) || among (get_or v 0 0) mark_bytes) 30 (le_refl 30) tt w l))

pub marks_none : (b next : ℕ) → among b mark_bytes ≡ false → 30 ≡ mark_of b next
marks_none b next e = rw (← no_mark (b ∷ next ∷ []) (omega arith) e, ← no_mark (b ∷ []) (omega arith) e)

-- the first bytes of two-byte marks before another second byte
module _ (n : ℕ) where
  pub lone_equals : (n ≡ 62 → ⊥) → 23 ≡ mark_of 61 n
  unfolding symbol symbols position same
  lone_equals d = rw (position, same, ne_eqb n 62 d)

  pub lone_minus : (n ≡ 111 → ⊥) → 30 ≡ mark_of 45 n
  unfolding symbol symbols position same
  lone_minus d = rw (position, same, ne_eqb n 111 d)

  pub lone_less : (n ≡ 45 → ⊥) → 30 ≡ mark_of 60 n
  unfolding symbol symbols position same
  lone_less d = rw (position, same, ne_eqb n 45 d)

-- a mark of two bytes has a second byte, and not 0
single : (w : List ℕ) → get_or w 1 0 ≡ 0 → ltb (symbol w) 14 ≡ false
unfolding symbols
single w e = go (dec_lt (symbol w) 14)
  where
    go : Dec (symbol w < 14) → ltb (symbol w) 14 ≡ false
    go (yes l) = absurd (rw e at (symbol_all (λ _ v. not (eqb (get_or v 1 0) 0)) 14 (omega arith) tt w l))
    go (no l) = le-ltb (symbol w) 14 (omega arith)

-- the token at i of two bytes' mark k, or of the first one's m, or none
abbrev pub longest : ℕ → ℕ → ℕ → Token
longest i k m = cond (ltb k 14) (token k i (i + 2)) (cond (ltb m 30) (token m i (i + 1)) (token 32 i (i + 1)))

longest_one : (i k m : ℕ) → ltb m 14 ≡ false → (n : ℕ) → n ≡ cond (ltb k 14) k m → longest i n n ≡ longest i k m
longest_one i k m e n z = go (ltb k 14) refl
  where
    go : (t : Bool) → ltb k 14 ≡ t → longest i n n ≡ longest i k m
    go true f = rw (z, f, f)
    go false f = rw (z, f, e)

module _ (s : List ℕ) (i : ℕ) (h : i < length s) where
  second : get_or (take 2 (drop i s)) 1 0 ≡ get_or s (i + 1) 0
  second = let l : 1 < 2 = omega arith in rw (get_or-take, get_or-drop)

  -- past the end of the text the second byte is 0
  two_bytes : (m : ℕ) → longest i (symbol (get_or s i 0 ∷ get_or s (i + 1) 0 ∷ [])) m ≡ longest i (symbol (take 2 (drop i s))) m
  two_bytes m = go (dec_lt (i + 1) (length s))
    where
      go : Dec (i + 1 < length s) → longest i (symbol (get_or s i 0 ∷ get_or s (i + 1) 0 ∷ [])) m ≡ longest i (symbol (take 2 (drop i s))) m
      go (yes l) = let l : suc i < length s = omega arith in rw (add-one i, drop-cons s i 0 h, drop-cons s (suc i) 0 l)
      go (no l) =
          let z : get_or s (i + 1) 0 ≡ 0 = get_or-eq_default s 0 (omega arith) in
          rw (single (take 2 (drop i s)) (second ∙ z), single (get_or s i 0 ∷ get_or s (i + 1) 0 ∷ []) z)

  pub mark_by : (k next : ℕ) → next ≡ get_or s (i + 1) 0 → k ≡ mark_of (get_or s i 0) next → longest i k k ≡ mark_at s i
  unfolding mark_at
  mark_by k next f e =
      let one = get_or s i 0 ∷ [] in
      let two = get_or s i 0 ∷ get_or s (i + 1) 0 ∷ [] in
      let cut : take 1 (drop i s) ≡ one = rw (drop-cons s i 0 h) in
      rw cut (longest_one i (symbol two) (symbol one) (single one refl) k (e ∙ ap (mark_of (get_or s i 0)) f) ∙ two_bytes (symbol one))
