-- Terminals as bytes: each can be written, after a blank, with the name `a` if it is a name or a label, and the bytes have the tokens of these terminals.
use Rattle.std.specs.Prelude.{ℕ, suc, ◌+◌, ◌<◌, ◌≡◌, refl, ◌≢◌, List, [], ◌∷◌, ◌++◌, map, true, ltb, length, get_or}
use Rattle.std.proofs.Common.{sym, ap, subst, arith, length-append, ltb-true}
use Rattle.std.proofs.Math.Decide.{dec_lt}
use Rattle.notation.specs.Bytes.{letter, blank, position, same}
use Rattle.notation.specs.Token.{symbols, symbol, k_type, k_proc, k_exec, k_lolli, k_name, k_label, k_end}
use Rattle.notation.specs.Tree.{Name, Located}
use Rattle.grammar.specs.Terminals.{tok, Terminal, token_of, declares_type, declares_proc, declares_exec, type_mark, type_name, term_word, brought, opens, closes, listed, sent, name, mark}
use Rattle.grammar.specs.Lexical.{IsName, letters, Spells, IsWord, IsMark, text_ends, Token, Tokens}
use Rattle.grammar.specs.Lexical as lexical
use Rattle.grammar.specs.Notation.{end_at}
use Rattle.theory_notation.specs.Spellings.{is_element, spells_kind}
use Rattle.theory_notation.specs.Moved.{put, Moved, Known, known}
use Rattle.theory_notation.specs.Moved as moved
use Rattle.theory_notation.specs.Local.{Follows, parted, over, name_ends, longest_on, Inner}
use Rattle.theory_notation.specs.Local as local

-- the name that names and labels are written with
abbrev letter_a : Name
letter_a = 97 ∷ []

is_name : IsName letter_a
unfolding letter
is_name = letters refl lexical.none

no_word : (k : ℕ) → ¬ IsWord k letter_a
unfolding symbol symbols position same
no_word k h = let e = spells_kind k letter_a h.spells in let l = h.reserved in absurd (omega arith)

-- ── a terminal as bytes: its token, wherever the bytes stand and whatever follows them after a blank
pub record Writes (x : Terminal) : Type 0 where
  pub inner : (token_of x).kind ≢ k_end
  pub bytes : List ℕ
  pub token : (i : ℕ) (r : List ℕ) → Follows [] r → Token i (bytes ++ r) (token_of (put (record { at = i; name = letter_a }) x)) (i + length bytes) r

spelling : (k : ℕ) → ltb k k_name ≡ true → (w : List ℕ) × Spells k w
unfolding symbols
spelling k e = (get_or symbols k [], is_element [] symbols k (ltb-true k k_name e))

symbol_token : (k : ℕ) → ltb k k_name ≡ true → (w : List ℕ) → Spells k w → (i : ℕ) (r : List ℕ) → Follows [] r → Token i (w ++ r) (tok k i []) (i + length w) r
symbol_token k e w h i r f = go (dec_lt k k_lolli)
  where
    go : Dec (k < k_lolli) → Token i (w ++ r) (tok k i []) (i + length w) r
    go (yes l) = lexical.word k w (record { spells = h; reserved = l }) (name_ends text_ends f)
    go (no l) =
        let m : IsMark k w = record { spells = h; after = omega arith; below = ltb-true k k_name e } in
        lexical.mark k w m (longest_on k w m (λ j v t y z. omega (arith, ap length z, length-append w [], length-append v t)) f)

-- .. by its part
writes_symbol : (x : Terminal) (k : ℕ) → ltb k k_name ≡ true → (token_of x).kind ≡ k → ((l : Located) → token_of (put l x) ≡ tok k l.at []) → Writes x
writes_symbol x k e g is =
    let (w, h) = spelling k e in
    record {
      inner = λ z. let l = ltb-true k k_name e in omega arith;
      bytes = w;
      token = λ i r f. subst (λ t. Token i (w ++ r) t (i + length w) r) (sym (is (record { at = i; name = letter_a }))) (symbol_token k e w h i r f);
    }

writes_name : (x : Terminal) → (token_of x).kind ≡ k_name → ((l : Located) → token_of (put l x) ≡ tok k_name l.at l.name) → Writes x
writes_name x g is = record {
  inner = λ z. absurd (omega arith);
  bytes = letter_a;
  token = λ i r f. subst (λ t. Token i (letter_a ++ r) t (i + 1) r) (sym (is (record { at = i; name = letter_a }))) (lexical.name letter_a is_name no_word (omega arith) (name_ends text_ends f));
}

writes_label : (x : Terminal) → (token_of x).kind ≡ k_label → ((l : Located) → token_of (put l x) ≡ tok k_label l.at l.name) → Writes x
writes_label x g is = record {
  inner = λ z. absurd (omega arith);
  bytes = 39 ∷ letter_a;
  token = λ i r f.
      let z : suc i + 1 ≡ i + 2 = omega arith in
      subst (λ t. Token i (39 ∷ (letter_a ++ r)) t (i + 2) r) (sym (is (record { at = i; name = letter_a })))
      (subst (λ j. Token i (39 ∷ (letter_a ++ r)) (tok k_label i letter_a) j r) z (lexical.label letter_a is_name (omega arith) (name_ends text_ends f)));
}

writes : (x : Terminal) → known x ≡ true → Writes x
writes (declares_type a) e = writes_symbol (declares_type a) k_type refl refl (λ l. refl)
writes (declares_proc a) e = writes_symbol (declares_proc a) k_proc refl refl (λ l. refl)
writes (declares_exec a) e = writes_symbol (declares_exec a) k_exec refl refl (λ l. refl)
writes (type_mark k a) e = writes_symbol (type_mark k a) k e refl (λ l. refl)
writes (type_name n) e = writes_name (type_name n) refl (λ l. refl)
writes (term_word k a) e = writes_symbol (term_word k a) k e refl (λ l. refl)
writes (brought n) e = writes_name (brought n) refl (λ l. refl)
writes (opens k a) e = writes_symbol (opens k a) k e refl (λ l. refl)
writes (closes k a) e = writes_symbol (closes k a) k e refl (λ l. refl)
writes (listed before n) e = writes_label (listed before n) refl (λ l. refl)
writes (sent n) e = writes_label (sent n) refl (λ l. refl)
writes (name n) e = writes_name (name n) refl (λ l. refl)
writes (mark k a) e = writes_symbol (mark k a) k e refl (λ l. refl)

pub known_inner : {p : List Terminal} → Known p → Inner (map token_of p)
known_inner moved.none = local.none
known_inner (moved.more {x = x} e h) = local.more (writes x e).inner (known_inner h)

-- ── terminals as bytes from an offset on, up to the end of a text
pub record Written (i : ℕ) (p : List Terminal) : Type 0 where
  pub bytes : List ℕ
  pub terminals : List Terminal
  pub are : Moved p terminals
  pub parted : (r : List ℕ) → Follows r bytes
  pub tokens : Tokens i bytes (map token_of terminals ++ (end_at (i + length bytes) ∷ [])) (i + length bytes) []

pub written : (i : ℕ) {p : List Terminal} → Known p → Written i p
unfolding blank
written i moved.none =
    let z : i ≡ i + 0 = omega arith in
    record { bytes = []; terminals = []; are = moved.none; parted = λ r. over; tokens = subst (λ j. Tokens i [] (end_at j ∷ []) j []) z (lexical.more lexical.end lexical.none) }
written i (moved.more {x = x} e h) =
    let w = writes x e in
    let v = written (suc i + length w.bytes) h in
    let y = put (record { at = suc i; name = letter_a }) x in
    let z : suc i + length w.bytes + length v.bytes ≡ i + length (32 ∷ (w.bytes ++ v.bytes)) = omega (arith, length-append w.bytes v.bytes) in
    record {
      bytes = 32 ∷ (w.bytes ++ v.bytes);
      terminals = y ∷ v.terminals;
      are = moved.more (record { at = suc i; name = letter_a }) v.are;
      parted = λ r. parted;
      tokens = subst (λ j. Tokens i (32 ∷ (w.bytes ++ v.bytes)) (token_of y ∷ (map token_of v.terminals ++ (end_at j ∷ []))) j []) z
          (lexical.more (lexical.separated refl (w.token (suc i) v.bytes (v.parted []))) v.tokens);
    }
