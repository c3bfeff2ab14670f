use Prim.Native.Nat.{◌-◌}
use lib.ListN.{length}
use Rattle.check_contexts.specs.Walks.{Walking, Remaining}
use Rattle.check_contexts.proofs.names.mark_list.Given as goal

abbrev pub invariant-loop-there : goal.invariant-loop-there
invariant-loop-there l = Walking l.text l.from l.i (Remaining l.text l.ends l.n l.sought l.initial.marks l.marks)

abbrev pub decreases-loop-there : goal.decreases-loop-there
decreases-loop-there l = length l.text - l.i
