use Rattle.call_positions.proofs.Walks.{Walked}
use Rattle.call_positions.proofs.position.after.Given as goal

abbrev pub invariant-loop-b : goal.invariant-loop-b
invariant-loop-b l = Walked l.part l.p l.b-index
