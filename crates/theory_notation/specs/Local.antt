-- Tokens are derived from their own bytes and the byte that follows: before another text, of which the first byte is the same or a blank, or before none, they are the same tokens.
use Rattle.std.specs.Prelude.{ℕ, ◌+◌, ◌≤◌, ◌≡◌, refl, ◌≢◌, List, [], ◌∷◌, ◌++◌, not, eqb, length, get_or, take}
use Rattle.std.proofs.Common.{sym, ◌∙◌, ap, subst, append_assoc, le_refl, arith, length-append}
use Rattle.std.proofs.Math.Seq.{take-append_seam}
use Rattle.notation.specs.Bytes.{letter, name_byte}
use Rattle.notation.specs.Token.{symbols, k_name, k_end}
use Rattle.notation.proofs.Tokens.{symbol_all}
use Rattle.grammar.specs.Terminals.{Tok}
use Rattle.grammar.specs.Lexical.{NameEnds, text_ends, another, IsMark, Longest, Token, Tokens}
use Rattle.grammar.specs.Lexical as lexical
use Rattle.theory_notation.specs.Spellings.{spells_kind}
use Rattle.theory_notation.specs.Scanning.{Cut, two, one, mark_cut}

-- `Follows r q`: q begins as r does, or with a blank, or is empty
pub data Follows : List ℕ → List ℕ → Type 0 where
  same : {b : ℕ} {r q : List ℕ} → Follows (b ∷ r) (b ∷ q)
  parted : {r q : List ℕ} → Follows r (32 ∷ q)
  over : {r : List ℕ} → Follows r []

follows_append : (w : List ℕ) {r q : List ℕ} → Follows r q → Follows (w ++ r) (w ++ q)
follows_append [] h = h
follows_append (b ∷ w) h = same

-- names, words and labels end there too
pub name_ends : {r q : List ℕ} → NameEnds r → Follows r q → NameEnds q
unfolding name_byte letter
name_ends (another e) same = another e
name_ends h parted = another refl
name_ends h over = text_ends

-- .. and no longer mark begins: no mark has a blank in it
mark_solid : (k : ℕ) (w : List ℕ) → IsMark k w → get_or w 1 0 ≢ 32
unfolding symbols
mark_solid k w h e = absurd (rw e at (symbol_all (λ _ v. not (eqb (get_or v 1 0) 32)) k_name (le_refl k_name) tt w (omega (arith, spells_kind k w h.spells, h.below))))

module _ (k : ℕ) (v t : List ℕ) (h : IsMark k v) (two_bytes : length v ≡ 2) where
  begins_with : (l : List ℕ) → l ≡ v ++ t → v ≡ take 2 l
  begins_with l e = sym (take-append_seam v t) ∙ ap (λ n. take n (v ++ t)) two_bytes ∙ ap (take 2) (sym e)

  not_longer : (w : List ℕ) {r q : List ℕ} → length w ≡ 1 → Longest w (w ++ r) → Follows r q → w ++ q ≢ v ++ t
  not_longer [] z l f e = absurd (omega arith)
  not_longer (a ∷ []) z l (same {b = b} {r = r} {q = q}) e =
      let y : a ∷ b ∷ r ≡ v ++ r = ap (λ v. v ++ r) (sym (begins_with (a ∷ b ∷ q) e)) in
      absurd (omega (arith, l k v r h y))
  not_longer (a ∷ []) z l (parted {q = q}) e = mark_solid k v h (ap (λ v. get_or v 1 0) (begins_with (a ∷ 32 ∷ q) e))
  not_longer (a ∷ []) z l over e = let y = ap length (begins_with (a ∷ []) e) in absurd (omega arith)
  not_longer (a ∷ b ∷ w) z l f e = absurd (omega arith)

pub longest_on : (k : ℕ) (w : List ℕ) {r q : List ℕ} → IsMark k w → Longest w (w ++ r) → Follows r q → Longest w (w ++ q)
longest_on k w {r} {q} x l f j v t y e = go (mark_cut (w ++ q) k w q x refl) (mark_cut (w ++ q) j v t y e)
  where
    go : Cut (w ++ q) k w → Cut (w ++ q) j v → length v ≤ length w
    go (two _ a _) (two _ b _) = omega arith
    go (two _ a _) (one _ b _) = omega arith
    go (one _ a _) (one _ b _) = omega arith
    go (one _ a _) (two _ b _) = absurd (not_longer j v t y b w a l f e)

-- ── what is derived from bytes, and from their front before something else
pub record Local (i : ℕ) (s : List ℕ) (j : ℕ) (r : List ℕ) (Derived : (from left : List ℕ) → Type 0) : Type 0 where
  pub front : List ℕ
  pub is : s ≡ front ++ r
  pub long : i + length front ≡ j
  pub before : (q : List ℕ) → Follows r q → Derived (front ++ q) q

token_local : {i j : ℕ} {s r : List ℕ} {t : Tok} → t.kind ≢ k_end → Token i s t j r → Local i s j r (λ l q. Token i l t j q)
token_local k (lexical.separated {b = b} e x) =
    let y = token_local k x in
    let z = y.long in
    record { front = b ∷ y.front; is = ap (◌∷◌ b) y.is; long = omega arith; before = λ q f. lexical.separated e (y.before q f) }
token_local k (lexical.name w a b c d) = record { front = w; is = refl; long = refl; before = λ q f. lexical.name w a b c (name_ends d f) }
token_local k (lexical.label w a c d) = record { front = 39 ∷ w; is = refl; long = omega arith; before = λ q f. lexical.label w a c (name_ends d f) }
token_local k (lexical.word n w a d) = record { front = w; is = refl; long = refl; before = λ q f. lexical.word n w a (name_ends d f) }
token_local k (lexical.mark n w a d) = record { front = w; is = refl; long = refl; before = λ q f. lexical.mark n w a (longest_on n w a d f) }
token_local k lexical.end = absurd (k refl)

-- tokens of which none is the end
pub data Inner : List Tok → Type 0 where
  none : Inner []
  more : {t : Tok} {ts : List Tok} → t.kind ≢ k_end → Inner ts → Inner (t ∷ ts)

pub tokens_local : {i j : ℕ} {s r : List ℕ} {ts : List Tok} → Inner ts → Tokens i s ts j r → Local i s j r (λ l q. Tokens i l ts j q)
tokens_local none lexical.none = record { front = []; is = refl; long = omega arith; before = λ q f. lexical.none }
tokens_local {i} {j} {r = r} (more k ks) (lexical.more {j = m} {r = u} {t = t} {ts = ts} x h) =
    let y = token_local k x in
    let z = tokens_local ks h in
    record {
      front = y.front ++ z.front;
      is = y.is ∙ ap (λ l. y.front ++ l) z.is ∙ sym (append_assoc y.front z.front r);
      long = omega (arith, y.long, z.long, length-append y.front z.front);
      before = λ q f.
          subst (λ l. Tokens i l (t ∷ ts) j q) (sym (append_assoc y.front z.front q))
          (lexical.more (y.before (z.front ++ q) (subst (λ u. Follows u (z.front ++ q)) (sym z.is) (follows_append z.front f))) (z.before q f));
    }

pub tokens_append : {i j k : ℕ} {s r q : List ℕ} {ts us : List Tok} → Tokens i s ts j r → Tokens j r us k q → Tokens i s (ts ++ us) k q
tokens_append lexical.none h = h
tokens_append (lexical.more x g) h = lexical.more x (tokens_append g h)
