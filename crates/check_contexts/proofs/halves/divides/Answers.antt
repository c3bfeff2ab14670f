use Rattle.std.proofs.Common.{refl, arith}
use Rattle.check_contexts.specs.Halves.{divide_none, divide_on, divide_fails, divide_all}
use Rattle.check_contexts.proofs.halves.divides.Goals as goal

pub loop-k-init : goal.loop-k-init
loop-k-init c = divide_none

pub returns-then-not-is_fair : goal.returns-then-not-is_fair
returns-then-not-is_fair c = divide_fails c.loop-k.invariant c.loop-k-test.true c.is_marked.ensures c.is_marked-in-loop-k.ensures c.is_fair.ensures c.if-not-is_fair.true

pub loop-k-preserved : goal.loop-k-preserved
loop-k-preserved c = divide_on c.loop-k.invariant c.loop-k-test.true c.is_marked.ensures c.is_marked-in-loop-k.ensures c.is_fair.ensures c.if-not-is_fair.false _ refl

pub returns : goal.returns
returns c = divide_all c.loop-k.invariant (omega arith)
