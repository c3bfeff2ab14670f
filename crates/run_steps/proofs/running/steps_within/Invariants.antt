use Rattle.run_steps.specs.Running.{Running}
use Rattle.run_steps.proofs.running.steps_within.Given as goal

abbrev pub invariant-loop-taken : goal.invariant-loop-taken
invariant-loop-taken l = Running l.text l.scratch l.initial.run l.run l.budget l.taken
