use native.Mathlib.Omega.{arith}
use mathlib.Core.Path.{refl}
use Rattle.check_declarations.specs.Lowest.{walk_start, walk_on, walk_end, lowered_as}
use Rattle.check_declarations.specs.Execs.{wrong_execs_lem}
use Rattle.check_declarations.proofs.execs.wrong_execs.Goals as goal

pub loop-i-init : goal.loop-i-init
loop-i-init c = walk_start

pub wrong_exec-l-requires : goal.wrong_exec-l-requires
wrong_exec-l-requires c = (c.requires, c.reach-marks.ensures, omega (arith, c.loop-i-test.true, c.exec_count-n.ensures, c.requires.within))

pub loop-i-preserved : goal.loop-i-preserved
loop-i-preserved c = walk_on refl c.loop-i.invariant (omega (arith, c.loop-i-test.true, c.exec_count-n.ensures)) c.wrong_exec-l.ensures

pub returns : goal.returns
returns c = lowered_as (wrong_execs_lem _ _) (walk_end c.loop-i.invariant (omega (arith, c.loop-i-test.false, c.exec_count-n.ensures)))
