use Rattle.std.proofs.Common.{◌-◌}
use Rattle.check_types.specs.Classes.{weights}
use Rattle.check_types.specs.Meeting.{Meeting}
use Rattle.check_types.proofs.equality.meet_labels.Given as goal

abbrev pub invariant-loop-k : goal.invariant-loop-k
invariant-loop-k l = Meeting l.text l.scratch l.e l.n l.x l.y l.initial.representatives (weights l.initial.states) l.representatives (weights l.states) (l.e - l.k) (l.n - l.k)
