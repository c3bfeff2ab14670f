use Rattle.run_joints.proofs.Joining.{joined_then, joined_stop}
use Rattle.run_joints.proofs.circles.join_process.Goals as goal

pub returns-else-join_held : goal.returns-else-join_held
returns-else-join_held c = rw c.if-join_held.false (joined_stop _ c.if-join_held.false c.join_held.ensures)

pub returns-then-join_held : goal.returns-then-join_held
returns-then-join_held c = joined_then c.if-join_held.true c.join_held.ensures c.join_link.ensures
