use Rattle.run_words.specs.Raw.{raw_in}
use Rattle.run_joints.specs.Tests.{Pairs}
use Rattle.run_joints.specs.Links.{apart}
use Rattle.run_joints.proofs.links.linked_once.Given as goal

abbrev pub invariant-loop-i : goal.invariant-loop-i
invariant-loop-i l = Pairs apart (raw_in l.run).processes l.i
