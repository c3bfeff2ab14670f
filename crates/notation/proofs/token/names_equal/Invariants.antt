use Prim.Native.Nat.{◌-◌}
use lib.ListN.{length}
use Rattle.notation.proofs.Names.{Matched}
use Rattle.notation.proofs.token.names_equal.Given as goal

abbrev pub invariant-loop-x : goal.invariant-loop-x
invariant-loop-x l = Matched l.text l.a l.b l.x l.y

abbrev pub decreases-loop-x : goal.decreases-loop-x
decreases-loop-x l = length l.text - l.x
