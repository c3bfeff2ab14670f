use Rattle.run_joints.proofs.Joining.{circle, apart}
use Rattle.run_joints.proofs.circles.join.Goals as goal

pub returns-then-a-b : goal.returns-then-a-b
returns-then-a-b c = circle c.args.labels.now c.args.i c.args.j c.requires.0 c.requires.1 c.if-a-b.true

pub returns : goal.returns
returns c = apart c.args.labels.now c.args.i c.args.j c.requires.0 c.requires.1 _ c.if-a-b.false c.relabel.ensures
