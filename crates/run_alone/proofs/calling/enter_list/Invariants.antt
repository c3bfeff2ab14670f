use Rattle.run_alone.specs.Calling.{Entering}
use Rattle.run_alone.proofs.calling.enter_list.Given as goal

abbrev pub invariant-loop-left : goal.invariant-loop-left
invariant-loop-left l = Entering l.text l.scratch l.h l.initial.q l.from l.side l.first l.n l.q l.at l.i l.left

abbrev pub decreases-loop-left : goal.decreases-loop-left
decreases-loop-left l = l.left
