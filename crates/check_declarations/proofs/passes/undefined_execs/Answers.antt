use native.Mathlib.Omega.{arith}
use mathlib.Core.Path.{refl}
use Rattle.check_declarations.specs.Lowest.{walk_start, walk_on, walk_end}
use Rattle.check_declarations.specs.DeclarationFaults.{exec_walked}
use Rattle.check_declarations.proofs.passes.undefined_execs.Goals as goal

pub loop-i-init : goal.loop-i-init
loop-i-init c = walk_start

pub loop-i-preserved : goal.loop-i-preserved
loop-i-preserved c =
    walk_on refl c.loop-i.invariant (omega (arith, c.loop-i-test.true, c.exec_count-n.ensures))
    (exec_walked _ _ c.exec_at-at.ensures c.undefined_process-l.ensures)

pub returns : goal.returns
returns c = walk_end c.loop-i.invariant (omega (arith, c.loop-i-test.false, c.exec_count-n.ensures))
