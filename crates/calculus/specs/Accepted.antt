-- What a text comes to: the refusal among 2 to 15, or its declarations.
use Rattle.std.specs.Prelude.{ℕ, List}
use Rattle.notation.specs.Tree.{Declaration}
use Rattle.notation.specs.Reader.{Result, got, refused}
use Rattle.notation.specs.Scripts.{read_text}
use Rattle.calculus.specs.Verdict.{Verdict, fine, and_then}
use Rattle.calculus.specs.Declarations.{declared}
use Rattle.calculus.specs.Checking.{typed}

pub data Checked : Type 0 where
  accepted : List Declaration → Checked
  faulty : ℕ → ℕ → Checked

abbrev pub judged : List Declaration → Verdict → Checked
judged ds fine = accepted ds
judged ds (Verdict.refused n at) = faulty n at

abbrev pub checked_read : Result (List Declaration) → Checked
checked_read (got ds c) = judged ds (and_then (declared ds) (typed ds))
checked_read (refused n at) = faulty n at

unfoldable pub checked : List ℕ → Checked
checked s = checked_read (read_text s)
