use native.Mathlib.Omega.{arith}
use borrow.Author.Tests.{lt-ltb, le-ltb}
use Rattle.run_joints.specs.Tests.{each_passed, each_failed, each_end}
use Rattle.run_joints.specs.Numbers.{answers_given}
use Rattle.run_joints.proofs.numbers.numbers_given.Goals as goal

pub returns-then-g-o : goal.returns-then-g-o
returns-then-g-o c =
    answers_given _ (each_failed c.loop-k.invariant c.outside_at-o.ensures.k_value
    (le-ltb c.outside_at-o.result.number _ (rw (← c.given-g.ensures) c.if-g-o.true)))

pub loop-k-preserved : goal.loop-k-preserved
loop-k-preserved c = each_passed c.loop-k.invariant c.outside_at-o.ensures.k_value (lt-ltb c.outside_at-o.result.number _ (rw (← c.given-g.ensures) c.if-g-o.false))

pub returns : goal.returns
returns c = answers_given _ (each_end c.loop-k.invariant (omega arith))
