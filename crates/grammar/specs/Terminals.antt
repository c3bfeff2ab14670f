-- Tokens, and the parts that they play in a script. A terminal is a token with its part, so that the limits can count it: a name in a type is a type term, one that begins a spawn a process term.
use Rattle.std.specs.Prelude.{ℕ, List, [], ◌∷◌}
use Rattle.notation.specs.Token.{k_type, k_proc, k_exec, k_name, k_label}
use Rattle.notation.specs.Tree.{Name, Located}

-- a token: its kind, the offset of its first byte, and the name of a name or label ([] for a word, a mark and the end of the text)
pub record Tok : Type 0 where
  pub kind : ℕ
  pub at : ℕ
  pub name : Name

abbrev pub tok : ℕ → ℕ → Name → Tok
tok k a n = record { kind = k; at = a; name = n }

pub data Terminal : Type 0 where
  -- the keyword of a declaration
  declares_type declares_proc declares_exec : (at : ℕ) → Terminal
  -- a `1`, an infix mark, a `+` or a `&`; a name in a type
  type_mark : (kind at : ℕ) → Terminal
  type_name : Located → Terminal
  -- the first token of a process term: its word, or the name that a spawn brings in
  term_word : (kind at : ℕ) → Terminal
  brought : Located → Terminal
  -- a bracket
  opens closes : (kind at : ℕ) → Terminal
  -- the label of a choice or branch list in which so many come before it
  listed : (before : ℕ) → Located → Terminal
  -- a label that is sent; any other name, word or mark
  sent : Located → Terminal
  name : Located → Terminal
  mark : (kind at : ℕ) → Terminal

-- the token that plays the part
abbrev pub token_of : Terminal → Tok
token_of (declares_type a) = tok k_type a []
token_of (declares_proc a) = tok k_proc a []
token_of (declares_exec a) = tok k_exec a []
token_of (type_mark k a) = tok k a []
token_of (type_name n) = tok k_name n.at n.name
token_of (term_word k a) = tok k a []
token_of (brought n) = tok k_name n.at n.name
token_of (opens k a) = tok k a []
token_of (closes k a) = tok k a []
token_of (listed before l) = tok k_label l.at l.name
token_of (sent l) = tok k_label l.at l.name
token_of (name n) = tok k_name n.at n.name
token_of (mark k a) = tok k a []

abbrev pub offset : Terminal → ℕ
offset x = (token_of x).at

-- the offset of the token that follows: the first of these, or, if there is none, the one after them
abbrev pub following : List Terminal → ℕ → ℕ
following [] next = next
following (x ∷ p) next = offset x
