use native.Mathlib.Omega.{arith}
use mathlib.Core.Path.{refl}
use Rattle.check_declarations.specs.Lowest.{walk_start, walk_on, walk_end}
use Rattle.check_declarations.proofs.passes.processes_faults.Goals as goal

pub loop-i-init : goal.loop-i-init
loop-i-init c = walk_start

pub signature_faults-l-requires : goal.signature_faults-l-requires
signature_faults-l-requires c = (c.requires, omega (arith, c.loop-i-test.true, c.process_count-n.ensures))

pub loop-i-preserved : goal.loop-i-preserved
loop-i-preserved c = walk_on refl c.loop-i.invariant (omega (arith, c.loop-i-test.true, c.process_count-n.ensures)) c.signature_faults-l.ensures

pub returns : goal.returns
returns c = walk_end c.loop-i.invariant (omega (arith, c.loop-i-test.false, c.process_count-n.ensures))
