use mathlib.Core.Path.{sym, ◌∙◌}
use native.Mathlib.Omega.{arith}
use Prim.Native.Nat.{◌+◌}
use borrow.Author.Tests.{lt-ltb}
use Rattle.notation.specs.Limits.{held_limit}
use Rattle.check_text.specs.Bodies.{seventeenth}
use Rattle.check_text.proofs.bodies.has_seventeenth.Goals as goal

pub returns-then-e-gt-HELD : goal.returns-then-e-gt-HELD
returns-then-e-gt-HELD c =
    let e = c.args.e in
    lt-ltb held_limit e.provided c.if-e-gt-HELD.true ∙ sym (lt-ltb held_limit (e.provided + e.used) (omega arith))

pub returns-else-e-gt-HELD : goal.returns-else-e-gt-HELD
returns-else-e-gt-HELD c = seventeenth _ _ c.if-e-gt-HELD.false
