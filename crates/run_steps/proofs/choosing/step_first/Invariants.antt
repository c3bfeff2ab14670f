use mathlib.Core.Path.{◌≡◌}
use Rattle.read_tables.specs.Program.{program_in}
use Rattle.run_alone.specs.Run.{config_in}
use Rattle.run_steps.specs.Choosing.{Skipped}
use Rattle.run_steps.proofs.choosing.step_first.Given as goal

abbrev pub invariant-loop-i : goal.invariant-loop-i
invariant-loop-i l = (l.run ≡ l.initial.run) × Skipped (program_in l.text l.scratch) (config_in l.text l.scratch l.initial.run) l.i
