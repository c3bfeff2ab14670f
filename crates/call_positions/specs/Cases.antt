-- What is so of the next line's begin and of the next column is so past every byte.
use Rattle.std.specs.Prelude.{ℕ, Bool, true, false, cond, eqb}
use Rattle.call_positions.specs.Position.{line_feed, next_line, next_column, advanced}
use Rattle.call_positions.specs.declared.position.Position.{Position}

pub advanced_cases : (Holds : Position → Type 0) (p : Position) (b : ℕ) → Holds (next_line p) → Holds (next_column p) → Holds (advanced p b)
unfolding advanced
advanced_cases Holds p b feed other = by (eqb b line_feed)
  where
    by : (t : Bool) → Holds (cond t (next_line p) (next_column p))
    by true = feed
    by false = other
