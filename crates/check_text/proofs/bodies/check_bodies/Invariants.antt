use Prim.Native.Nat.{◌-◌}
use Rattle.check_text.specs.Bodies.{Checking}
use Rattle.check_text.proofs.bodies.check_bodies.Given as goal

abbrev pub invariant-loop-i : goal.invariant-loop-i
invariant-loop-i l = Checking l.text l.scratch l.n l.i
