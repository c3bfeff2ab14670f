use Rattle.check_contexts.specs.Halves.{Dividing}
use Rattle.check_contexts.proofs.halves.divides.Given as goal

abbrev pub invariant-loop-k : goal.invariant-loop-k
invariant-loop-k l = Dividing l.n l.first l.second l.exactly l.k
