use native.Mathlib.Omega.{arith}
use mathlib.Core.Path.{refl, ◌∙◌}
use Rattle.check_declarations.specs.Reach.{test_start, test_on, test_found, test_end, marked_any}
use Rattle.check_declarations.proofs.reach.is_marked.Goals as goal

pub loop-i-init : goal.loop-i-init
loop-i-init c = test_start

pub returns-then-marked_so : goal.returns-then-marked_so
returns-then-marked_so c =
    test_found c.loop-i.invariant (omega (arith, c.loop-i-test.true, c.type_count-n.ensures))
    c.marked_so.ensures c.if-marked_so.true ∙ marked_any _ _ _ _

pub loop-i-preserved : goal.loop-i-preserved
loop-i-preserved c =
    test_on c.loop-i.invariant (omega (arith, c.loop-i-test.true, c.type_count-n.ensures))
    c.marked_so.ensures refl c.if-marked_so.false

pub returns : goal.returns
returns c = test_end c.loop-i.invariant (omega (arith, c.loop-i-test.false, c.type_count-n.ensures)) ∙ marked_any _ _ _ _
