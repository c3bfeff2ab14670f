use Rattle.run_steps.specs.Starting.{Used}
use Rattle.run_steps.proofs.starting.use_channels.Given as goal

abbrev pub invariant-loop-number : goal.invariant-loop-number
invariant-loop-number l = Used l.scratch l.first l.n l.initial.run l.run l.number
