use native.Mathlib.Omega.{arith}
use mathlib.Core.Path.{refl}
use Rattle.check_declarations.specs.Lowest.{walk_start, walk_on, walk_end, lowered_as}
use Rattle.check_declarations.specs.Bare.{bare_names_lem}
use Rattle.check_declarations.proofs.bare.bare_names.Goals as goal

pub loop-i-init : goal.loop-i-init
loop-i-init c = walk_start

pub bare_name-low-requires : goal.bare_name-low-requires
bare_name-low-requires c = (c.requires, omega (arith, c.loop-i-test.true, c.type_count-n.ensures))

pub loop-i-preserved : goal.loop-i-preserved
loop-i-preserved c = walk_on refl c.loop-i.invariant (omega (arith, c.loop-i-test.true, c.type_count-n.ensures)) c.bare_name-low.ensures

pub returns : goal.returns
returns c = lowered_as (bare_names_lem _ _) (walk_end c.loop-i.invariant (omega (arith, c.loop-i-test.false, c.type_count-n.ensures)))
