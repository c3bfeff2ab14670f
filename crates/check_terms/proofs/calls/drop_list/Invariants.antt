use Prim.Native.Nat.{◌-◌}
use lib.ListN.{length}
use Rattle.check_terms.specs.Lists.{Dropping}
use Rattle.check_terms.proofs.calls.drop_list.Given as goal

abbrev pub invariant-loop-x : goal.invariant-loop-x
invariant-loop-x l = Dropping l.text l.initial.r l.from l.i l.r

abbrev pub decreases-loop-x : goal.decreases-loop-x
decreases-loop-x l = length l.text - l.i
