-- A script that leaves out no label prints the lines of its execs, and nothing else.
use Rattle.std.specs.Prelude.{ℕ, ◌≡◌, List, [], ◌++◌}
use Rattle.std.proofs.Common.{◌∙◌, ap}
use Rattle.notation.specs.Tree.{Declaration}
use Rattle.calculus.specs.Accepted.{accepted, checked}
use Rattle.calculus.specs.Printed.{all_execs, warning_lines, printed_of, printed}
use Rattle.calculus.specs.Program.{program_of}
use Rattle.calculus.specs.Warnings.{Warning, warnings}
use Rattle.print_pieces.specs.Stages.{printed_by}

pub no_warnings_printed : (s : List ℕ) (ds : List Declaration) → warnings ds ≡ [] → printed_of s (accepted ds) ≡ all_execs s (program_of ds) (program_of ds).execs
no_warnings_printed s ds e = ap (λ (l : List Warning). warning_lines l ++ all_execs s (program_of ds) (program_of ds).execs) e

pub spotless_printed : (s : List ℕ) (ds : List Declaration) → checked s ≡ accepted ds → warnings ds ≡ [] → printed s ≡ all_execs s (program_of ds) (program_of ds).execs
spotless_printed s ds a e = printed_by s (accepted ds) a ∙ no_warnings_printed s ds e
