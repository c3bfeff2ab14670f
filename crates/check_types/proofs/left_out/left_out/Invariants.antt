use Rattle.std.proofs.Common.{◌-◌}
use Rattle.check_types.specs.LeftOut.{Leaving}
use Rattle.check_types.proofs.left_out.left_out.Given as goal

abbrev pub invariant-loop-i : goal.invariant-loop-i
invariant-loop-i l = Leaving l.text l.scratch l.e l.n l.d l.m l.k (l.e - l.i) (l.n - l.i) l.left
