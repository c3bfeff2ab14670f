use native.Mathlib.Omega.{arith}
use Prim.Native.Nat.{◌+◌}
use mathlib.Core.Path.{refl}
use Rattle.check_declarations.specs.Names.{fits_less}
use Rattle.check_declarations.proofs.Repeats.{repeats_numbered}
use Rattle.check_declarations.specs.Lowest.{walk_start, walk_on}
use Rattle.check_declarations.proofs.names.repeated_names.Goals as goal

pub loop-j-init : goal.loop-j-init
loop-j-init c = walk_start

pub repeated_name-l-requires : goal.repeated_name-l-requires
repeated_name-l-requires c = (c.requires.0, fits_less c.args.names (c.loop-j.j + 1) c.args.count (omega (arith, c.loop-j-test.true)) c.requires.1)

pub loop-j-preserved : goal.loop-j-preserved
loop-j-preserved c = walk_on refl c.loop-j.invariant c.loop-j-test.true c.repeated_name-l.ensures

pub returns : goal.returns
returns c = repeats_numbered _ _ c.loop-j.invariant c.loop-j-test.false
