use Rattle.check_contexts.specs.Marks.{Putting}
use Rattle.check_contexts.proofs.names.put_mark.Given as goal

abbrev pub invariant-loop-k : goal.invariant-loop-k
invariant-loop-k l = Putting l.text l.ends l.at l.sought l.mark l.fn.m l.r l.k
