-- The token reader is right: it finds the token that the lexical rules have, and a fault where they have none.
use Rattle.std.specs.Prelude.{ℕ, suc, ◌≤◌, ◌<◌, ◌≡◌, refl, ◌≢◌, List, [], ◌∷◌, ◌++◌, Bool, true, false, eqb, length, get_or, take, drop}
use Rattle.std.proofs.Common.{sym, ◌∙◌, ap, subst, arith, take-append-drop, eqb-true}
use Rattle.std.proofs.lemmas.Bool.{false≢true, eqb-false}
use Rattle.std.proofs.Math.Decide.{dec_lt}
use Rattle.notation.specs.Limits.{name_limit}
use Rattle.notation.specs.Bytes.{letter, name_byte, blank}
use Rattle.notation.specs.Token.{symbol, token_at, kind_at, k_name, k_fault, k_round_open}
use Rattle.notation.specs.declared.token.Token as declared
use Rattle.notation.proofs.Tokens.{token_onward}
use Rattle.grammar.specs.Terminals.{Tok, tok}
use Rattle.grammar.specs.Lexical.{NameBytes, IsName, letters, NameEnds, text_ends, another, IsMark, Token, NoToken}
use Rattle.grammar.specs.Lexical as lexical
use Rattle.theory_notation.specs.Standing.{name_of, token_in}
use Rattle.theory_notation.specs.Spellings.{spells_kind, name_word}
use Rattle.theory_notation.specs.Scanning.{Cut, two, one, mark_cut, taken_mark, two_long, reads, faults}

-- ── the rules have an answer about all bytes
data Lexed (i : ℕ) (l : List ℕ) : Type 0 where
  token : (t : Tok) (j : ℕ) (r : List ℕ) → Token i l t j r → Lexed i l
  fault : (a : ℕ) → NoToken i l a → Lexed i l

-- the bytes of a name that stand first, and what follows
record Span (l : List ℕ) : Type 0 where
  front : List ℕ
  rest : List ℕ
  is : front ++ rest ≡ l
  name : NameBytes front
  ends : NameEnds rest

span : (l : List ℕ) → Span l
span [] = record { front = []; rest = []; is = refl; name = lexical.none; ends = text_ends }
span (b ∷ l) = go (name_byte b) refl (span l)
  where
    go : (t : Bool) → name_byte b ≡ t → Span l → Span (b ∷ l)
    go true e v = record { front = b ∷ v.front; rest = v.rest; is = ap (◌∷◌ b) v.is; name = lexical.more e v.name; ends = v.ends }
    go false e v = record { front = []; rest = b ∷ l; is = refl; name = lexical.none; ends = another e }

-- what is so of every name with what ends it is so of bytes that begin with a letter
spanned : (P : List ℕ → Type 0) → ((w r : List ℕ) → IsName w → NameEnds r → P (w ++ r)) → (b : ℕ) (l : List ℕ) → letter b ≡ true → P (b ∷ l)
spanned P f b l e = let v = span l in subst (λ l. P (b ∷ l)) v.is (f (b ∷ v.front) v.rest (letters e v.name) v.ends)

module _ (i : ℕ) where
  module _ (w r : List ℕ) (n : IsName w) (ends : NameEnds r) where
    lexed_name : Lexed i (w ++ r)
    lexed_name = go (dec_lt (symbol w) k_name) (dec_lt name_limit (length w))
      where
        go : Dec (symbol w < k_name) → Dec (name_limit < length w) → Lexed i (w ++ r)
        go (yes h) _ = token _ _ r (lexical.word (symbol w) w (name_word w n h) ends)
        go (no h) (yes l) = fault i (lexical.long_name w n l ends)
        go (no h) (no l) = token _ _ r (lexical.name w n (λ k x. h (omega (arith, spells_kind k w x.spells, x.reserved))) (omega arith) ends)

    lexed_label : Lexed i (39 ∷ (w ++ r))
    lexed_label = go (dec_lt name_limit (length w))
      where
        go : Dec (name_limit < length w) → Lexed i (39 ∷ (w ++ r))
        go (yes l) = fault i (lexical.long_label w n l ends)
        go (no l) = token _ _ r (lexical.label w n (omega arith) ends)

  -- what follows an apostrophe
  lexed_after : (l : List ℕ) → Lexed i (39 ∷ l)
  lexed_after [] = fault i (lexical.lone_apostrophe go)
    where
      go : (w r : List ℕ) → IsName w → [] ≢ w ++ r
      go w r (letters f h) e = let z = ap length e in omega arith
  lexed_after (b ∷ l) = go (letter b) refl
    where
      lone : (w r : List ℕ) → IsName w → letter b ≡ false → b ∷ l ≢ w ++ r
      lone w r (letters f h) g e = false≢true (sym g ∙ ap (λ l. letter (get_or l 0 0)) e ∙ f)

      go : (t : Bool) → letter b ≡ t → Lexed i (39 ∷ (b ∷ l))
      go true e = spanned (λ l. Lexed i (39 ∷ l)) lexed_label b l e
      go false e = fault i (lexical.lone_apostrophe (λ w r n. lone w r n e))

  -- another byte
  module _ (b : ℕ) (l : List ℕ) (f : blank b ≡ false) (g : letter b ≡ false) (h : b ≢ 39) where
    lexed_mark : Lexed i (b ∷ l)
    lexed_mark = go (dec_lt (symbol (take 2 (b ∷ l))) k_round_open) (dec_lt (symbol (b ∷ [])) k_name)
      where
        none : (k : ℕ) (w : List ℕ) → IsMark k w → Cut (b ∷ l) k w → k_round_open ≤ symbol (take 2 (b ∷ l)) → k_name ≤ symbol (b ∷ []) → ⊥
        none k w x (two m e z) p q = omega arith
        none k w x (one m e z) p q = omega (arith, x.below)

        most : (k : ℕ) (w : List ℕ) → Cut (b ∷ l) k w → length w ≤ 2
        most k w (two m e z) = omega arith
        most k w (one m e z) = omega arith

        least : (k : ℕ) (w : List ℕ) → Cut (b ∷ l) k w → k_round_open ≤ symbol (take 2 (b ∷ l)) → length w ≤ 1
        least k w (two m e z) p = absurd (omega arith)
        least k w (one m e z) p = omega arith

        go : Dec (symbol (take 2 (b ∷ l)) < k_round_open) → Dec (symbol (b ∷ []) < k_name) → Lexed i (b ∷ l)
        go (yes p) _ =
            let w = take 2 (b ∷ l) in
            let r = drop 2 (b ∷ l) in
            let whole : w ++ r ≡ b ∷ l = take-append-drop 2 (b ∷ l) in
            subst (Lexed i) whole
            (token _ _ r
            (lexical.mark (symbol w) w (taken_mark (b ∷ l) 2 (omega arith) (omega arith))
            (λ k v r x e. omega (arith, most k v (mark_cut (b ∷ l) k v r x (sym whole ∙ e)), two_long (b ∷ l) p))))
        go (no p) (yes q) =
            token _ _ l (lexical.mark (symbol (b ∷ [])) (b ∷ []) (taken_mark (b ∷ l) 1 (omega arith) q) (λ k v r x e. least k v (mark_cut (b ∷ l) k v r x e) (omega arith)))
        go (no p) (no q) = fault i (lexical.opens_none f g h (λ k w r x e. none k w x (mark_cut (b ∷ l) k w r x e) (omega arith) (omega arith)))

  lexed_first : (b : ℕ) (l : List ℕ) → blank b ≡ false → Lexed i (b ∷ l)
  lexed_first b l f = go (letter b) refl (eqb b 39) refl
    where
      go : (t : Bool) → letter b ≡ t → (u : Bool) → eqb b 39 ≡ u → Lexed i (b ∷ l)
      go true g u h = spanned (Lexed i) lexed_name b l g
      go false g true h = subst (λ b. Lexed i (b ∷ l)) (sym (eqb-true b 39 h)) (lexed_after l)
      go false g false h = lexed_mark b l f g (eqb-false b 39 h)

lexed : (i : ℕ) (l : List ℕ) → Lexed i l
lexed i [] = token _ _ [] lexical.end
lexed i (b ∷ l) = go (blank b) refl (lexed (suc i) l)
  where
    go : (t : Bool) → blank b ≡ t → Lexed (suc i) l → Lexed i (b ∷ l)
    go true e (token t j r x) = token t j r (lexical.separated e x)
    go true e (fault a x) = fault a (lexical.separated e x)
    go false e _ = lexed_first i b l e

-- ── what the rules have is what is read
pub no_token_only : (s : List ℕ) (i a : ℕ) → i ≤ length s → NoToken i (drop i s) a → (kind_at s i ≡ k_fault) × (a ≡ (token_at s i).start)
no_token_only s i a h x = let v = faults s i (drop i s) a refl x in (v.kind, sym v.start)

module _ (s : List ℕ) (i : ℕ) (h : i ≤ length s) where
  pub token_end : (token_at s i).end ≤ length s
  token_end = (token_onward s i).ends

  pub token_only : {t : Tok} {j : ℕ} {r : List ℕ} → Token i (drop i s) t j r → (kind_at s i ≢ k_fault) × (t ≡ token_in s i) × (j ≡ (token_at s i).end) × (r ≡ drop j s)
  token_only {t} {j} {r} x =
      let v = reads s i (drop i s) t j r h refl x in (
        λ e. v.sound (sym (ap (λ (u : declared.Token). u.kind) v.is) ∙ e),
        sym (ap (λ (u : declared.Token). tok u.kind u.start (name_of s u.kind u.start)) v.is ∙ ap (tok t.kind t.at) v.name),
        sym (ap (λ (u : declared.Token). u.end) v.is),
        sym v.left,
      )

  pub token_stands : kind_at s i ≢ k_fault → Token i (drop i s) (token_in s i) (token_at s i).end (drop (token_at s i).end s)
  token_stands f = go (lexed i (drop i s))
    where
      go : Lexed i (drop i s) → Token i (drop i s) (token_in s i) (token_at s i).end (drop (token_at s i).end s)
      go (token t j r x) =
          let (_, a, b, c) = token_only x in
          subst (λ j. Token i (drop i s) (token_in s i) j (drop j s)) b (subst (λ t. Token i (drop i s) t j (drop j s)) a (subst (Token i (drop i s) t j) c x))
      go (fault a x) = absurd (f (no_token_only s i a h x).0)

  pub no_token_stands : kind_at s i ≡ k_fault → NoToken i (drop i s) (token_at s i).start
  no_token_stands f = go (lexed i (drop i s))
    where
      go : Lexed i (drop i s) → NoToken i (drop i s) (token_at s i).start
      go (token t j r x) = absurd ((token_only x).0 f)
      go (fault a x) = subst (NoToken i (drop i s)) (no_token_only s i a h x).1 x
