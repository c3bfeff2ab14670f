use Rattle.check_declarations.specs.Reach.{marked, Testing}
use Rattle.check_declarations.specs.Execs.{entry_other}
use Rattle.check_declarations.proofs.execs.entries_other.Given as goal

abbrev pub invariant-loop-k : goal.invariant-loop-k
invariant-loop-k l = Testing (entry_other l.text l.scratch (marked l.text l.scratch l.marks) l.i) l.n l.k
