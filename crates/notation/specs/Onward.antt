-- How far a token leads: what the readings of the code go on by.
use Rattle.std.specs.Prelude.{ℕ, ◌+◌, ◌≤◌, ◌<◌, List, cond, ◌||◌, length, eqb}
use Rattle.notation.specs.Token.{k_then, k_label, k_fault}
use Rattle.notation.specs.declared.token.Token.{Token}

-- how many bytes a token of this kind has at least, as far as the tables' room turns on it: a label and => have two
abbrev pub width : ℕ → ℕ
width k = cond (eqb k k_then || eqb k k_label) 2 1

-- a token lies within the text, and one that is neither a fault nor the end past its offset: what a reading goes on by
pub record Onward (s : List ℕ) (at : ℕ) (t : Token) : Type 0 where
  pub starts : t.start ≤ length s
  pub ends : t.end ≤ length s
  pub goes : t.kind < k_fault → (at + width t.kind ≤ t.end) × (t.start < length s)
