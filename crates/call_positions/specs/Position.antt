-- "The position of an offset is its line and column, both counted from 1".
use Rattle.std.specs.Prelude.{ℕ, ◌+◌, List, [], ◌∷◌, cond, eqb, take}
use Rattle.call_positions.specs.declared.position.Position.{Position}

abbrev pub line_feed : ℕ
line_feed = 10

-- where a text begins
abbrev pub first : Position
first = record { line = 1; column = 1 }

abbrev pub next_line : Position → Position
next_line p = record { line = p.line + 1; column = 1 }

abbrev pub next_column : Position → Position
next_column p = record { line = p.line; column = p.column + 1 }

-- past a byte: "a line feed ends its line, and every other byte is a column"
unfoldable pub advanced : Position → ℕ → Position
advanced p b = cond (eqb b line_feed) (next_line p) (next_column p)

-- past some bytes
unfoldable pub along : List ℕ → Position → Position
along [] p = p
along (b ∷ l) p = along l (advanced p b)

-- where the byte at an offset stands: past all bytes before it; "past the end of the text it is that of its end"
unfoldable pub position_at : List ℕ → ℕ → Position
position_at s at = along (take at s) first
