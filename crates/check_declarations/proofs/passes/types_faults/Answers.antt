use native.Mathlib.Omega.{arith}
use mathlib.Core.Path.{refl}
use Rattle.check_declarations.specs.Lowest.{walk_start, walk_on, walk_end}
use Rattle.check_declarations.specs.DeclarationFaults.{type_walked}
use Rattle.check_declarations.proofs.passes.types_faults.Goals as goal

pub loop-i-init : goal.loop-i-init
loop-i-init c = walk_start

pub type_faults-l-requires : goal.type_faults-l-requires
type_faults-l-requires c = (c.requires, c.declared_type-t.ensures.stands _ c.requires (omega (arith, c.loop-i-test.true, c.type_count-n.ensures)))

pub loop-i-preserved : goal.loop-i-preserved
loop-i-preserved c =
    walk_on refl c.loop-i.invariant (omega (arith, c.loop-i-test.true, c.type_count-n.ensures))
    (type_walked _ _ c.args.pass c.declared_type-t.ensures c.type_faults-l.ensures)

pub returns : goal.returns
returns c = walk_end c.loop-i.invariant (omega (arith, c.loop-i-test.false, c.type_count-n.ensures))
