use native.Mathlib.Omega.{arith}
use mathlib.Core.Path.{ap}
use lib.ListN.{drop_of_length-le}
use Rattle.run_words.specs.Raw.{raw_in}
use Rattle.run_words.specs.Values.{held_in, held_length}
use Rattle.run_joints.specs.Circles.{held_joints}
use Rattle.run_joints.proofs.Joining.{left_next, left_stop, left_end, held_turn}
use Rattle.run_joints.proofs.circles.join_held.Goals as goal

pub returns-then-not-join_end : goal.returns-then-not-join_end
returns-then-not-join_end c =
    let a = c.args in
    left_stop c.loop-k.invariant _ _ (held_turn (raw_in a.run.now) a.i (held_in a.h) c.loop-k.k c.end_at-e.ensures.k_value) c.if-not-join_end.true
    c.join_end.ensures

pub loop-k-preserved : goal.loop-k-preserved
loop-k-preserved c =
    let a = c.args in
    left_next c.loop-k.invariant _ _ (held_turn (raw_in a.run.now) a.i (held_in a.h) c.loop-k.k c.end_at-e.ensures.k_value) c.if-not-join_end.false
    c.join_end.ensures

pub returns : goal.returns
returns c =
    let a = c.args in
    left_end c.loop-k.invariant (ap (held_joints (raw_in a.run.now) a.i) (drop_of_length-le (held_in a.h) (omega (arith, held_length a.h))))
