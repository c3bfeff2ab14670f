use Prim.Native.Nat.{◌-◌}
use Rattle.check_text.specs.Warnings.{Seeking}
use Rattle.check_text.proofs.warnings.warning.Given as goal

abbrev pub invariant-loop-i : goal.invariant-loop-i
invariant-loop-i l = Seeking l.text l.scratch l.n l.k l.i l.left
