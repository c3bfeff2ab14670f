-- What the lexical rules say, the token reader computes: a law for each rule.
use Prim.Native.Nat.{ℕ, suc, ◌+◌, ◌-◌, ◌≤◌, ◌<◌}
use Rattle.std.specs.Prelude.{◌≡◌, ◌≢◌, List, [], ◌∷◌, ◌++◌, Bool, true, false, not, cond, leb, take}
use Rattle.std.proofs.Math.Path.{refl, ap}
use Rattle.std.proofs.Common.{sym, ◌∙◌, length-take, take-append-drop, drop-drop, get_or-drop}
use Rattle.std.proofs.lemmas.Bool.{false≢true}
use Rattle.std.proofs.Math.Numerals.{add-one}
use Rattle.std.proofs.Math.Decide.{dec_lt}
use native.Mathlib.Omega.{arith}
use Rattle.std.proofs.Math.ListN.{length, get_or, drop, length-drop}
use Rattle.std.proofs.Math.Seq.{take-append_seam, drop-append_seam}
use borrow.Author.Tests.{lt-ltb, le-ltb, le-leb, lt-leb, ne_eqb}
use Rattle.notation.specs.Limits.{name_limit}
use Rattle.notation.specs.Bytes.{letter, name_byte, blank, position}
use Rattle.notation.specs.Token.{symbol, skip, name_end, name_at, token, name_token, word_at, label_at, mark_at, first_at, token_at, kind_at, k_name, k_label, k_fault, k_end, k_round_open}
use Rattle.notation.specs.declared.token.Token as declared
use Rattle.notation.proofs.Symbols.{no_symbol}
use Rattle.notation.proofs.Marks.{longest}
use Rattle.grammar.specs.Terminals.{Tok, tok}
use Rattle.grammar.specs.Lexical.{NameBytes, none, more, IsName, letters, NameEnds, text_ends, another, IsMark, Longest, Token, NoToken}
use Rattle.grammar.specs.Lexical as lexical
use Rattle.theory_notation.specs.Standing.{name_of}
use Rattle.theory_notation.specs.Spellings.{spells_kind, word_name, word_short, name_word, Opens, opens, mark_opens, mark_width, mark_width_lem, short_mark}

-- ── the bytes from an offset on
module _ (s : List ℕ) (i : ℕ) where
  first_byte : get_or s i 0 ≡ get_or (drop i s) 0 0
  first_byte = ap (λ n. get_or s n 0) (omega arith) ∙ sym (get_or-drop i s 0 0)

  left_after : (w r : List ℕ) → drop i s ≡ w ++ r → drop (i + length w) s ≡ r
  left_after w r e = sym (drop-drop (length w) i s) ∙ ap (drop (length w)) e ∙ drop-append_seam w r

  module _ (b : ℕ) (l : List ℕ) (e : drop i s ≡ b ∷ l) where
    byte_in : i < length s
    byte_in = omega (arith, length-drop i s, ap length e)

    byte_is : get_or s i 0 ≡ b
    byte_is = first_byte ∙ ap (λ l. get_or l 0 0) e

    bytes_next : drop (suc i) s ≡ l
    bytes_next = ap (λ n. drop n s) (sym (add-one i)) ∙ left_after (b ∷ []) l e

    -- blanks are passed over
    skip_on : blank b ≡ true → skip s i ≡ skip s (suc i)
    unfolding skip position
    skip_on h = rw (e, bytes_next, position, h)

    token_on : blank b ≡ true → token_at s i ≡ token_at s (suc i)
    unfolding token_at
    token_on h = rw (skip_on h)

    skip_here : blank b ≡ false → skip s i ≡ i
    unfolding skip position
    skip_here h = rw (e, position, h)

    token_here : blank b ≡ false → token_at s i ≡ first_at s i
    unfolding token_at
    token_here h = rw (skip_here h, lt-ltb i (length s) byte_in)

  -- at the end of the text
  token_none : i ≤ length s → drop i s ≡ [] → token_at s i ≡ token k_end i i
  unfolding token_at skip position
  token_none h e =
      let z : length s ≡ i = omega (arith, length-drop i s, ap length e) in
      rw (e, z, le-ltb i i (omega arith))

-- ── names
name_bytes : {w : List ℕ} → IsName w → NameBytes w
unfolding name_byte
name_bytes (letters {b = b} e h) = let n : name_byte b ≡ true = rw e in more n h

name_found : (i : ℕ) {w r : List ℕ} → NameBytes w → NameEnds r → position (λ b. not (name_byte b)) (w ++ r) i ≡ i + length w
unfolding position
name_found i none text_ends = omega arith
name_found i none (another e) = rw (position, e) (omega arith)
name_found i {w = b ∷ w} (more e h) n = rw (position, e) (name_found (suc i) h n ∙ omega arith)

module _ (s : List ℕ) (i : ℕ) (w r : List ℕ) (e : drop i s ≡ w ++ r) (h : NameBytes w) (n : NameEnds r) where
  name_ends : name_end s i ≡ i + length w
  unfolding name_end
  name_ends = rw e (name_found i h n)

  name_is : name_at s i ≡ w
  unfolding name_at
  name_is =
      let z : i + length w - i ≡ length w = omega arith in
      rw (name_ends, z, e) (take-append_seam w r)

-- a letter is no blank
letter_least : (b : ℕ) → letter b ≡ true → 65 ≤ b
unfolding letter
letter_least b e = go (dec_lt b 65)
  where
    go : Dec (b < 65) → 65 ≤ b
    go (yes l) = let f = rw (lt-leb 65 b l, lt-leb 97 b (omega arith)) at e in absurd (false≢true f)
    go (no l) = omega arith

letter_solid : (b : ℕ) → letter b ≡ true → blank b ≡ false
unfolding blank
letter_solid b e =
    let h = letter_least b e in
    rw (ne_eqb b 32 (λ z. omega arith), ne_eqb b 9 (λ z. omega arith), ne_eqb b 10 (λ z. omega arith), ne_eqb b 13 (λ z. omega arith))

-- ── what is read by the first byte
module _ (s : List ℕ) (i : ℕ) where
  -- a letter: a word or a name, by all its bytes
  word_read : (w r : List ℕ) → drop i s ≡ w ++ r → IsName w → NameEnds r → token_at s i ≡ token (cond (leb (length w) name_limit) (symbol w) k_fault) i (i + length w)
  unfolding first_at word_at name_token
  word_read w r e (letters {b = b} {w = v} l h) n =
      let m : NameBytes (b ∷ v) = name_bytes (letters l h) in
      let z : i + length (b ∷ v) - i ≡ length (b ∷ v) = omega arith in
      token_here s i b (v ++ r) e (letter_solid b l)
      ∙ rw (byte_is s i b (v ++ r) e, l, name_is s i (b ∷ v) r e m n, name_ends s i (b ∷ v) r e m n, z)

  -- an apostrophe, with a name or none
  label_read : (w r : List ℕ) → drop i s ≡ 39 ∷ (w ++ r) → IsName w → NameEnds r → token_at s i ≡ token (cond (leb (length w) name_limit) k_label k_fault) i (suc i + length w)
  unfolding first_at label_at name_token blank letter
  label_read w r e (letters {b = b} {w = v} l h) n =
      let f : drop (suc i) s ≡ (b ∷ v) ++ r = bytes_next s i 39 (b ∷ v ++ r) e in
      let z : suc i + length (b ∷ v) - suc i ≡ length (b ∷ v) = omega arith in
      token_here s i 39 (b ∷ v ++ r) e refl
      ∙ rw (byte_is s i 39 (b ∷ v ++ r) e, add-one i, byte_is s (suc i) b (v ++ r) f, l, name_ends s (suc i) (b ∷ v) r f (name_bytes (letters l h)) n, z)

  lone_read : (l : List ℕ) → drop i s ≡ 39 ∷ l → letter (get_or l 0 0) ≡ false → token_at s i ≡ token k_fault i (i + 1)
  unfolding first_at label_at blank letter
  lone_read l e f =
      let g : get_or s (suc i) 0 ≡ get_or l 0 0 = first_byte s (suc i) ∙ ap (λ l. get_or l 0 0) (bytes_next s i 39 l e) in
      token_here s i 39 l e refl
      ∙ rw (byte_is s i 39 l e, add-one i, g, f)

  -- another byte
  mark_read : (l : List ℕ) → drop i s ≡ l → Opens l → token_at s i ≡ longest i (symbol (take 2 l)) (symbol (take 1 l))
  unfolding first_at mark_at
  mark_read l e (opens {b = b} {w = v} f g h) = token_here s i b v e f ∙ rw (byte_is s i b v e, g, h, e)

-- ── a mark that the bytes l begin with: one of two bytes, or of one
pub data Cut (l : List ℕ) (k : ℕ) (w : List ℕ) : Type 0 where
  two : k < k_round_open → length w ≡ 2 → symbol (take 2 l) ≡ k → Cut l k w
  one : k_round_open ≤ k → length w ≡ 1 → symbol (take 1 l) ≡ k → Cut l k w

module _ (l : List ℕ) where
  pub mark_cut : (k : ℕ) (w r : List ℕ) → IsMark k w → l ≡ w ++ r → Cut l k w
  mark_cut k w r h e = go (dec_lt k k_round_open)
    where
      taken : symbol (take (mark_width k) l) ≡ k
      taken = ap (λ n. symbol (take n l)) (sym (mark_width_lem k w h)) ∙ ap (λ l. symbol (take (length w) l)) e ∙ ap symbol (take-append_seam w r) ∙ spells_kind k w h.spells

      go : Dec (k < k_round_open) → Cut l k w
      go (yes m) = let z = lt-ltb k k_round_open m in two m (rw z at (mark_width_lem k w h)) (rw z at taken)
      go (no m) = let z = le-ltb k k_round_open (omega arith) in one (omega arith) (rw z at (mark_width_lem k w h)) (rw z at taken)

  pub taken_mark : (n : ℕ) → n ≤ 2 → symbol (take n l) < k_name → IsMark (symbol (take n l)) (take n l)
  taken_mark n h = short_mark (take n l) (omega (arith, length-take n l))

  none_taken : ((k : ℕ) (w r : List ℕ) → IsMark k w → l ≢ w ++ r) → (n : ℕ) → n ≤ 2 → symbol (take n l) ≡ k_name
  none_taken unmarked n h = sym (no_symbol (take n l) (λ m. unmarked (symbol (take n l)) (take n l) (drop n l) (taken_mark n h m) (sym (take-append-drop n l))))

  -- a mark of two bytes is longer than a mark of one
  pub two_long : symbol (take 2 l) < k_round_open → length (take 2 l) ≡ 2
  two_long m = rw (lt-ltb (symbol (take 2 l)) k_round_open m) at (mark_width_lem (symbol (take 2 l)) (take 2 l) (taken_mark 2 (omega arith) (omega arith)))

  longest_one : (w : List ℕ) → Longest w l → length w ≡ 1 → k_round_open ≤ symbol (take 2 l)
  longest_one w h e = go (dec_lt (symbol (take 2 l)) k_round_open)
    where
      go : Dec (symbol (take 2 l) < k_round_open) → k_round_open ≤ symbol (take 2 l)
      go (yes m) = absurd (omega (arith, two_long m, h (symbol (take 2 l)) (take 2 l) (drop 2 l) (taken_mark 2 (omega arith) (omega arith)) (sym (take-append-drop 2 l))))
      go (no m) = omega arith

  longest_is : (i k : ℕ) (w : List ℕ) → k < k_name → Longest w l → Cut l k w → longest i (symbol (take 2 l)) (symbol (take 1 l)) ≡ token k i (i + length w)
  longest_is i k w h g (two m e f) = rw (f, lt-ltb k k_round_open m, e)
  longest_is i k w h g (one m e f) = rw (le-ltb (symbol (take 2 l)) k_round_open (longest_one w g e), f, lt-ltb k k_name h, e)

opens_on : {w : List ℕ} (r : List ℕ) → Opens w → Opens (w ++ r)
opens_on r (opens f g h) = opens f g h

-- ── the token t is read from i on, and the bytes r, from j on, are left
pub record Reads (s : List ℕ) (i : ℕ) (t : Tok) (j : ℕ) (r : List ℕ) : Type 0 where
  pub is : token_at s i ≡ token t.kind t.at j
  pub name : name_of s t.kind t.at ≡ t.name
  pub left : drop j s ≡ r
  pub sound : t.kind ≢ k_fault

-- what stands at a, after blanks or none from i on, is no token
pub record Faults (s : List ℕ) (i a : ℕ) : Type 0 where
  pub kind : kind_at s i ≡ k_fault
  pub start : (token_at s i).start ≡ a

-- a word or a mark
symbol_reads : {s : List ℕ} {i k : ℕ} (w r : List ℕ) → k < k_name → drop i s ≡ w ++ r → token_at s i ≡ token k i (i + length w) → Reads s i (tok k i []) (i + length w) r
symbol_reads {s} {i} {k} w r h e f = record {
  is = f;
  name = rw (ne_eqb k k_name (λ z. omega arith), ne_eqb k k_label (λ z. omega arith));
  left = left_after s i w r e;
  sound = λ z. omega arith;
}

pub reads : (s : List ℕ) (i : ℕ) (l : List ℕ) (t : Tok) (j : ℕ) (r : List ℕ) → i ≤ length s → drop i s ≡ l → Token i l t j r → Reads s i t j r
reads s i l t j r h e (lexical.separated {b = b} {s = l'} f x) =
    let v = reads s (suc i) l' t j r (byte_in s i b l' e) (bytes_next s i b l' e) x in
    record { is = token_on s i b l' e f ∙ v.is; name = v.name; left = v.left; sound = v.sound }
reads s i l t j r h e (lexical.name w n other most ends) =
    let z : symbol w ≡ k_name = sym (no_symbol w (λ m. other (symbol w) (name_word w n m))) in
    record {
      is = word_read s i w r e n ends ∙ rw (le-leb (length w) name_limit most, z);
      name = name_is s i w r e (name_bytes n) ends;
      left = left_after s i w r e;
      sound = λ z. omega arith;
    }
reads s i l t j r h e (lexical.label w n most ends) =
    let f : drop (suc i) s ≡ w ++ r = bytes_next s i 39 (w ++ r) e in
    record {
      is = label_read s i w r e n ends ∙ rw (le-leb (length w) name_limit most);
      name = rw (add-one i) (name_is s (suc i) w r f (name_bytes n) ends);
      left = left_after s (suc i) w r f;
      sound = λ z. omega arith;
    }
reads s i l t j r h e (lexical.word k w x ends) =
    symbol_reads w r (omega (arith, x.reserved)) e
    (word_read s i w r e (word_name k w x) ends ∙ rw (le-leb (length w) name_limit (omega (arith, word_short k w x)), spells_kind k w x.spells))
reads s i l t j r h e (lexical.mark k w x y) = symbol_reads w r x.below e (mark_read s i (w ++ r) e (opens_on r (mark_opens k w x)) ∙ longest_is (w ++ r) i k w x.below y (mark_cut (w ++ r) k w r x refl))
reads s i l t j r h e lexical.end = record { is = token_none s i h e; name = refl; left = e; sound = λ z. omega arith }

faulty : {s : List ℕ} {i a : ℕ} (e : ℕ) → token_at s i ≡ token k_fault a e → Faults s i a
faulty e f = record { kind = ap (λ (t : declared.Token). t.kind) f; start = ap (λ (t : declared.Token). t.start) f }

-- bytes that begin with no name begin with no letter
no_letter : (l : List ℕ) → ((w r : List ℕ) → IsName w → l ≢ w ++ r) → letter (get_or l 0 0) ≡ false
unfolding letter
no_letter [] n = refl
no_letter (b ∷ l) n = go (letter b) refl
  where
    go : (t : Bool) → letter b ≡ t → t ≡ false
    go true e = absurd (n (b ∷ []) l (letters e none) refl)
    go false e = refl

pub faults : (s : List ℕ) (i : ℕ) (l : List ℕ) (a : ℕ) → drop i s ≡ l → NoToken i l a → Faults s i a
faults s i l a e (lexical.separated {b = b} {s = l'} f x) =
    let v = faults s (suc i) l' a (bytes_next s i b l' e) x in
    let z = token_on s i b l' e f in
    record { kind = ap (λ (t : declared.Token). t.kind) z ∙ v.kind; start = ap (λ (t : declared.Token). t.start) z ∙ v.start }
faults s i l a e (lexical.opens_none {b = b} {s = l'} f g h unmarked) =
    faulty (i + 1) (mark_read s i (b ∷ l') e (opens f g (ne_eqb b 39 h)) ∙ rw (none_taken (b ∷ l') unmarked 2 (omega arith), none_taken (b ∷ l') unmarked 1 (omega arith)))
faults s i l a e (lexical.lone_apostrophe {s = l'} n) = faulty (i + 1) (lone_read s i l' e (no_letter l' n))
faults s i l a e (lexical.long_name {r = r} w n long ends) = faulty (i + length w) (word_read s i w r e n ends ∙ rw (lt-leb (length w) name_limit long))
faults s i l a e (lexical.long_label {r = r} w n long ends) = faulty (suc i + length w) (label_read s i w r e n ends ∙ rw (lt-leb (length w) name_limit long))
