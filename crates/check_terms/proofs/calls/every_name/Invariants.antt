use Prim.Native.Nat.{◌-◌}
use lib.ListN.{length}
use Rattle.std.specs.Prelude.{Bool}
use Rattle.check_terms.specs.Lists.{EveryName}
use Rattle.check_terms.proofs.calls.every_name.Given as goal

abbrev pub invariant-loop-x : goal.invariant-loop-x
invariant-loop-x g l = (r : Bool) → EveryName l.text l.i (goal.F-post g l.test) r → EveryName l.text l.from (goal.F-post g l.test) r

abbrev pub decreases-loop-x : goal.decreases-loop-x
decreases-loop-x g l = length l.text - l.i
