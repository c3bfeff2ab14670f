use Rattle.run_joints.specs.Circles.{answers_free}
use Rattle.run_joints.proofs.Joining.{joined_all}
use Rattle.run_joints.proofs.circles.forest.Goals as goal

pub returns : goal.returns
returns c = answers_free _ (joined_all c.own_labels-labels.ensures c.join_all.ensures)
