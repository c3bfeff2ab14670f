use lib.ListN.{drop}
use Rattle.run_words.specs.Raw.{raw_in}
use Rattle.run_joints.specs.Circles.{joints_from}
use Rattle.run_joints.proofs.Joining.{Left}
use Rattle.run_joints.proofs.circles.join_all.Given as goal

abbrev pub invariant-loop-i : goal.invariant-loop-i
invariant-loop-i l =
    Left l.initial.labels l.labels (joints_from (raw_in l.run) 0 (raw_in l.run).processes)
    (joints_from (raw_in l.run) l.i (drop l.i (raw_in l.run).processes))
