-- Up to a refusal some text continues to a script: what the tokens so far begin can be written out as bytes.
use Rattle.std.specs.Prelude.{ℕ, ◌+◌, ◌≡◌, List, [], ◌∷◌, ◌++◌, map, length, take}
use Rattle.std.proofs.Common.{sym, ◌∙◌, ap, subst, append_assoc, arith, length-append}
use Rattle.std.proofs.lemmas.List.{map-append}
use Rattle.std.proofs.Math.Seq.{take-append_seam}
use Rattle.notation.specs.Tree.{Declaration}
use Rattle.grammar.specs.Terminals.{Tok, Terminal, token_of}
use Rattle.grammar.specs.Lexical.{Tokens}
use Rattle.grammar.specs.Grammar.{IsScript}
use Rattle.grammar.specs.Notation.{end_at, SoFar}
use Rattle.theory_notation.specs.Moved.{not_moved, moved_append, known_parts, script_anywhere}
use Rattle.theory_notation.specs.Local.{Inner, tokens_local, tokens_append}
use Rattle.theory_notation.specs.Written.{known_inner, written}

-- a text that begins with the first i bytes of s, whose tokens begin with ts, and from which the rules derive a script (limits aside)
pub record Continued (s : List ℕ) (ts : List Tok) (i : ℕ) : Type 0 where
  pub rest : List ℕ
  pub terminals : List Terminal
  pub script : List Declaration
  pub tokens : Tokens 0 (take i s ++ rest) (map token_of terminals ++ (end_at (length (take i s ++ rest)) ∷ [])) (length (take i s ++ rest)) []
  pub derives : IsScript (length (take i s ++ rest)) terminals script
  pub begins : (us : List Tok) × (map token_of terminals ≡ ts ++ us)

-- the bytes before those that are left
bytes_before : {s : List ℕ} {i : ℕ} (front r : List ℕ) → s ≡ front ++ r → 0 + length front ≡ i → front ≡ take i s
bytes_before {i = i} front r e l =
    let z : length front ≡ i = omega arith in
    sym (take-append_seam front r) ∙ ap (λ n. take n (front ++ r)) z ∙ ap (take i) (sym e)

respelled : {s u : List ℕ} {ts us : List Tok} {i j : ℕ} → Tokens 0 s ts i [] → s ≡ u → ts ≡ us → i ≡ j → Tokens 0 u us j []
respelled {u = u} {ts} {us} {i} h e f g = subst (λ j. Tokens 0 u us j []) g (subst (λ us. Tokens 0 u us i []) f (subst (λ s. Tokens 0 s ts i []) e h))

pub continued : {s : List ℕ} {ts : List Tok} {i : ℕ} {r : List ℕ} → SoFar s ts i r → Continued s ts i
continued {s} {ts} {i} {r} far =
    let p = far.terminals in
    let any = script_anywhere far.begins.derives in
    let (k, l) = known_parts p any.known in
    let v = written i l in
    let u = tokens_local (subst Inner far.are (known_inner k)) far.tokens in
    let after = map token_of v.terminals in
    let front = bytes_before u.front r u.is u.long in
    let text = take i s ++ v.bytes in
    let long : i + length v.bytes ≡ length text = omega (arith, length-append (take i s) v.bytes, u.long, ap length front) in
    let are : map token_of (p ++ v.terminals) ≡ ts ++ after = map-append token_of p v.terminals ∙ ap (λ ts. ts ++ after) far.are in
    let (ds, d) = any.moved (p ++ v.terminals) (moved_append (not_moved p) v.are) (length text) in
    record {
      rest = v.bytes;
      terminals = p ++ v.terminals;
      script = ds;
      tokens = respelled (tokens_append (u.before v.bytes (v.parted r)) v.tokens) (ap (λ f. f ++ v.bytes) front)
          (sym (append_assoc ts after (end_at (i + length v.bytes) ∷ [])) ∙ (λ h. sym are h ++ (end_at (long h) ∷ []))) long;
      derives = d;
      begins = (after, are);
    }
