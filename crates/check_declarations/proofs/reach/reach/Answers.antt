use native.Mathlib.Omega.{arith}
use mathlib.Core.Path.{refl}
use Rattle.check_declarations.specs.Reach.{rounds_start, rounds_on, rounds_settled, rounds_end}
use Rattle.check_declarations.proofs.reach.reach.Goals as goal

pub loop-init : goal.loop-init
loop-init c = rounds_start

pub loop-preserved : goal.loop-preserved
loop-preserved c = rounds_on refl c.loop.invariant (omega (arith, c.type_count-n.ensures)) c.next_marks-next.ensures

pub returns-then-not-marks_differ : goal.returns-then-not-marks_differ
returns-then-not-marks_differ c = rounds_settled c.loop.invariant c.next_marks-next.ensures c.type_count-n.ensures c.marks_differ.ensures c.if-not-marks_differ.true

pub returns : goal.returns
returns c = rounds_end c.loop.invariant (omega (arith, c.type_count-n.ensures))
