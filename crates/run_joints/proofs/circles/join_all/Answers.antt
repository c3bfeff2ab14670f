use Rattle.run_words.specs.Raw.{raw_in}
use Rattle.run_joints.proofs.Joining.{left_next, left_stop, process_turn}
use Rattle.run_joints.proofs.circles.join_all.Goals as goal

pub returns-then-not-join_process : goal.returns-then-not-join_process
returns-then-not-join_process c =
    let a = c.args in
    left_stop c.loop-i.invariant _ _ (process_turn (raw_in a.run.now) (raw_in a.run.now).processes c.loop-i.i c.load-p.ensures.i_value) c.if-not-join_process.true
    c.join_process.ensures

pub loop-i-preserved : goal.loop-i-preserved
loop-i-preserved c =
    let a = c.args in
    left_next c.loop-i.invariant _ _ (process_turn (raw_in a.run.now) (raw_in a.run.now).processes c.loop-i.i c.load-p.ensures.i_value) c.if-not-join_process.false
    c.join_process.ensures
