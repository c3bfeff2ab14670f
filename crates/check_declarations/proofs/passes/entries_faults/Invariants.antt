use Rattle.check_declarations.specs.Lowest.{Walking}
use Rattle.check_declarations.specs.DeclarationFaults.{entry_faults}
use Rattle.check_declarations.proofs.passes.entries_faults.Given as goal

abbrev pub invariant-loop-k : goal.invariant-loop-k
invariant-loop-k l = Walking (entry_faults l.text l.scratch l.pass l.i) l.initial.l l.n l.k l.l
