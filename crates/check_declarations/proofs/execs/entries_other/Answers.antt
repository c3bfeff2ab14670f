use native.Mathlib.Omega.{arith}
use mathlib.Core.Path.{refl}
use Rattle.check_declarations.specs.Listed.{entries_fit, entry_first}
use Rattle.check_declarations.specs.Reach.{test_start, test_on, test_found, test_end}
use Rattle.check_declarations.specs.Execs.{entry_tested}
use Rattle.check_declarations.proofs.execs.entries_other.Goals as goal

pub loop-k-init : goal.loop-k-init
loop-k-init c = test_start

pub overflow_add-i : goal.overflow_add-i
overflow_add-i c = omega (arith, c.loop-k-test.true, entries_fit _ _ c.requires.0 _ _ c.requires.1 (omega (arith, c.loop-k-test.true)))

pub entry-e-requires : goal.entry-e-requires
entry-e-requires c = (c.requires.0.area, omega (arith, c.loop-k-test.true, entries_fit _ _ c.requires.0 _ _ c.requires.1 (omega (arith, c.loop-k-test.true))))

pub has_other-requires : goal.has_other-requires
has_other-requires c = (c.requires.0, (entry_first _ _ c.requires.0 _ _ c.requires.1 _ c.loop-k-test.true c.entry-e.ensures).type)

pub returns-then-has_other : goal.returns-then-has_other
returns-then-has_other c =
    let loop = c.loop-k in
    test_found loop.invariant c.loop-k-test.true (entry_tested _ _ _ _ loop.k c.entry-e.ensures c.has_other.ensures) c.if-has_other.true

pub loop-k-preserved : goal.loop-k-preserved
loop-k-preserved c =
    let loop = c.loop-k in
    test_on loop.invariant c.loop-k-test.true (entry_tested _ _ _ _ loop.k c.entry-e.ensures c.has_other.ensures) refl c.if-has_other.false

pub returns : goal.returns
returns c = test_end c.loop-k.invariant c.loop-k-test.false
