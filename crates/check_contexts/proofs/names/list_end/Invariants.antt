use Prim.Native.Nat.{◌-◌}
use lib.ListN.{length}
use Rattle.check_contexts.specs.Walks.{Walking, Whatever}
use Rattle.check_contexts.proofs.names.list_end.Given as goal

abbrev pub invariant-loop-past : goal.invariant-loop-past
invariant-loop-past l = Walking l.text l.from l.i Whatever

abbrev pub decreases-loop-past : goal.decreases-loop-past
decreases-loop-past l = length l.text - l.i
