use lib.ListN.{drop}
use Rattle.run_words.specs.Raw.{raw_in}
use Rattle.run_words.specs.Values.{held_in}
use Rattle.run_joints.specs.Circles.{held_joints}
use Rattle.run_joints.proofs.Joining.{Left}
use Rattle.run_joints.proofs.circles.join_held.Given as goal

abbrev pub invariant-loop-k : goal.invariant-loop-k
invariant-loop-k l = Left l.initial.labels l.labels (held_joints (raw_in l.run) l.i (held_in l.h)) (held_joints (raw_in l.run) l.i (drop l.k (held_in l.h)))
