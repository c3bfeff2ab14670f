use Rattle.run_words.specs.Raw.{raw_in}
use Rattle.run_joints.specs.Tests.{Each}
use Rattle.run_joints.specs.Links.{leading}
use Rattle.run_joints.proofs.links.links_lead.Given as goal

abbrev pub invariant-loop-i : goal.invariant-loop-i
invariant-loop-i l = Each (leading (raw_in l.run)) (raw_in l.run).processes l.i
