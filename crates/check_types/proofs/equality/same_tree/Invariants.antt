use Rattle.trees.specs.Classes.{sum}
use Rattle.check_types.specs.Classes.{weights}
use Rattle.check_types.specs.Comparing.{Going}
use Rattle.check_types.proofs.equality.same_tree.Given as goal

abbrev pub invariant-loop-i : goal.invariant-loop-i
invariant-loop-i l = Going l.text l.scratch l.a l.b l.representatives (weights l.states)

abbrev pub decreases-loop-i : goal.decreases-loop-i
decreases-loop-i l = sum (weights l.states)
