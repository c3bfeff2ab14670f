use native.Mathlib.Omega.{arith}
use Rattle.run_joints.specs.Numbers.{rise_passed, rise_failed, rise_end, answers_rise}
use Rattle.run_joints.proofs.numbers.numbers_rise.Goals as goal

pub returns-then-o-low : goal.returns-then-o-low
returns-then-o-low c = answers_rise _ (rise_failed c.loop-k.invariant c.outside_at-o.ensures.k_value c.if-o-low.true)

pub loop-k-preserved : goal.loop-k-preserved
loop-k-preserved c = rise_passed c.loop-k.invariant c.outside_at-o.ensures.k_value c.if-o-low.false

pub returns : goal.returns
returns c = answers_rise _ (rise_end c.loop-k.invariant (omega arith))
