-- The tokens of a text one after the other, without end: past the text stands its end again. What stands in a text, and what the lexical rules derive, are beginnings of it.
use Prim.Native.Nat.{ℕ, zero, suc, ◌+◌, ◌≤◌}
use native.Mathlib.Omega.{arith}
use Rattle.std.specs.Prelude.{◌≡◌, refl, drop}
use Rattle.std.proofs.Common.{sym, ◌∙◌, subst}
use Rattle.std.proofs.Math.Path.{ap}
use mathlib.Core.List.{List, [], ◌∷◌, ◌++◌, map}
use Rattle.std.proofs.Math.ListN.{length}
use Rattle.notation.specs.Token.{token_at, k_end}
use Rattle.grammar.specs.Terminals.{Tok, Terminal, token_of}
use Rattle.grammar.specs.Lexical.{Token, Tokens}
use Rattle.grammar.specs.Lexical as lexical
use Rattle.grammar.specs.Notation.{end_at}
use Rattle.theory_notation.specs.Standing.{token_in, Stand, spelled, Agree}
use Rattle.theory_notation.specs.Standing as standing
use Rattle.theory_notation.specs.Lexing.{token_stands, token_only, token_end}

module _ (s : List ℕ) where
  -- the first n tokens from an offset on
  unfoldable pub stream : ℕ → ℕ → List Tok
  stream i zero = []
  stream i (suc n) = token_in s i ∷ stream (token_at s i).end n

  pub stream_agrees : (m n i : ℕ) → m ≤ n → Agree (stream i n) (stream i m)
  unfolding stream
  stream_agrees zero n i l = tt
  stream_agrees (suc m) zero i l = absurd (omega arith)
  stream_agrees (suc m) (suc n) i l = (refl, stream_agrees m n (token_at s i).end (omega arith))

  -- .. of which terminals that stand are the beginning
  pub stand_stream : {i j : ℕ} {p : List Terminal} (n m : ℕ) → length p + n ≡ m → Stand s i p j → spelled p (stream j n) ≡ stream i m
  unfolding stream
  stand_stream {i} n m l standing.none = let e : n ≡ m = omega arith in ap (stream i) e
  stand_stream n zero l (standing.more f e h) = absurd (omega arith)
  stand_stream n (suc m) l (standing.more f e h) = let g = stand_stream n m (omega arith) h in λ k. e k ∷ g k

  pub stand_within : {i j : ℕ} {p : List Terminal} → i ≤ length s → Stand s i p j → j ≤ length s
  stand_within l standing.none = l
  stand_within {i} l (standing.more f e h) = stand_within (token_end s i l) h

  -- .. and so are tokens that are derived, which go on where the reader does
  pub record Streamed (i : ℕ) (ts : List Tok) (j : ℕ) (r : List ℕ) : Type 0 where
    pub left : r ≡ drop j s
    pub within : j ≤ length s
    pub is : (n m : ℕ) → length ts + n ≡ m → ts ++ stream j n ≡ stream i m

  pub tokens_stream : {i j : ℕ} {l r : List ℕ} {ts : List Tok} → i ≤ length s → l ≡ drop i s → Tokens i l ts j r → Streamed i ts j r
  unfolding stream
  tokens_stream {i} b e lexical.none = record { left = e; within = b; is = λ n m l. let e : n ≡ m = omega arith in ap (stream i) e }
  tokens_stream {i} b e (lexical.more {j = k} {r = r} {t = t} x h) =
      let y = token_only s i b (subst (λ l. Token i l t k r) e x) in
      let g = tokens_stream (subst (λ k. k ≤ length s) (sym y.2) (token_end s i b)) y.3 h in
      record { left = g.left; within = g.within; is = λ n m l. go i y.1 y.2 g n m l }
    where
      go : (i : ℕ) {k j : ℕ} {t : Tok} {ts : List Tok} {r : List ℕ} → t ≡ token_in s i → k ≡ (token_at s i).end → Streamed k ts j r → (n m : ℕ) → length (t ∷ ts) + n ≡ m → (t ∷ ts) ++ stream j n ≡ stream i m
      go i x y g n zero l = absurd (omega arith)
      go i x y g n (suc m) l = let h = g.is n m (omega arith) ∙ ap (λ k. stream k m) y in λ k. x k ∷ h k

  -- what stands is derived
  pub stand_tokens : {i j : ℕ} {p : List Terminal} → i ≤ length s → Stand s i p j → Tokens i (drop i s) (map token_of p) j (drop j s)
  stand_tokens l standing.none = lexical.none
  stand_tokens {i} l (standing.more f e h) = lexical.more (subst (λ t. Token i (drop i s) t (token_at s i).end (drop (token_at s i).end s)) (sym e) (token_stands s i l f)) (stand_tokens (token_end s i l) h)

-- ── the end of a text
pub end_token : {i j : ℕ} {l r : List ℕ} {t : Tok} → Token i l t j r → t.kind ≡ k_end → (t ≡ end_at (i + length l)) × (j ≡ i + length l) × (r ≡ [])
end_token {i} (lexical.separated {b = b} {s = s} e x) k =
    let y = end_token x k in
    let z : suc i + length s ≡ i + length (b ∷ s) = omega arith in
    (y.0 ∙ ap end_at z, y.1 ∙ z, y.2)
end_token (lexical.name w a b c d) k = absurd (omega arith)
end_token (lexical.label w a c d) k = absurd (omega arith)
end_token (lexical.word n w a d) k = let h = a.reserved in absurd (omega arith)
end_token (lexical.mark n w a d) k = let h = a.below in absurd (omega arith)
end_token {i} lexical.end k = let z : i ≡ i + 0 = omega arith in (ap end_at z, z, refl)
