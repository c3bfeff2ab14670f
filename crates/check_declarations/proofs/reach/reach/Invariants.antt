use Rattle.check_declarations.specs.Reach.{Rounds}
use Rattle.check_declarations.proofs.reach.reach.Given as goal

abbrev pub invariant-loop : goal.invariant-loop
invariant-loop l = Rounds l.text l.scratch l.marks l.counter
