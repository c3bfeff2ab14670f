-- How the steps of a budget end: by an answer, or with the budget spent and nothing shown.
use Rattle.std.specs.Prelude.{ℕ, List}
use Rattle.std.specs.Prelude.{Option, Some, None}
use Rattle.calculus.specs.Runs.{run_on}
use Rattle.calculus.specs.declared.answers.RanOn.{RanOn}
use Rattle.read_tables.specs.Program.{program_in}
use Rattle.run_alone.specs.Run.{config_in}
use Rattle.run_steps.specs.Running.{RunsOn, Running}

abbrev pub RunsBy : List ℕ → List ℕ → List ℕ → List ℕ → ℕ → Option RanOn → Type 0
RunsBy s w old new budget (Some a) = RunsOn s w old new a (run_on (program_in s w) (config_in s w old) budget)
RunsBy s w old new budget None = Running s w old new budget budget
