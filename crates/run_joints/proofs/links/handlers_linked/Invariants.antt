use Rattle.run_words.specs.Raw.{raw_in}
use Rattle.run_joints.specs.Tests.{Each}
use Rattle.run_joints.specs.Links.{linked}
use Rattle.run_joints.proofs.links.handlers_linked.Given as goal

abbrev pub invariant-loop-i : goal.invariant-loop-i
invariant-loop-i l = Each (linked (raw_in l.run)) (raw_in l.run).processes l.i
