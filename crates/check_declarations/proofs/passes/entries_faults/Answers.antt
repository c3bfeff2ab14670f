use native.Mathlib.Omega.{arith}
use mathlib.Core.Path.{refl}
use Rattle.check_declarations.specs.Lowest.{walk_start, walk_on, walk_end, lowered_as}
use Rattle.check_declarations.specs.Listed.{entries_fit, entry_first}
use Rattle.check_declarations.specs.DeclarationFaults.{entry_walked, entries_over}
use Rattle.check_declarations.proofs.passes.entries_faults.Goals as goal

pub loop-k-init : goal.loop-k-init
loop-k-init c = walk_start

pub overflow_add-i : goal.overflow_add-i
overflow_add-i c = omega (arith, c.loop-k-test.true, entries_fit _ _ c.requires.0 _ _ c.requires.1 (omega (arith, c.loop-k-test.true)))

pub entry-e-requires : goal.entry-e-requires
entry-e-requires c = (c.requires.0.area, omega (arith, c.loop-k-test.true, entries_fit _ _ c.requires.0 _ _ c.requires.1 (omega (arith, c.loop-k-test.true))))

pub type_faults-l-requires : goal.type_faults-l-requires
type_faults-l-requires c = (c.requires.0, (entry_first _ _ c.requires.0 _ _ c.requires.1 _ c.loop-k-test.true c.entry-e.ensures).type)

pub loop-k-preserved : goal.loop-k-preserved
loop-k-preserved c =
    walk_on refl c.loop-k.invariant c.loop-k-test.true
    (entry_walked _ _ c.args.pass _ c.loop-k.k c.entry-e.ensures c.type_faults-l.ensures)

pub returns : goal.returns
returns c = lowered_as (entries_over _ _ c.args.pass _ _) (walk_end c.loop-k.invariant c.loop-k-test.false)
