use Rattle.run_wellformed.specs.Outward.{outward_in}
use Rattle.run_words.specs.Raw.{raw_in}
use Rattle.run_joints.specs.Tests.{Each}
use Rattle.run_wellformed.proofs.outwards.outside_outward.Given as goal

abbrev pub invariant-loop-k : goal.invariant-loop-k
invariant-loop-k l = Each (λ _. outward_in l.text l.scratch) (raw_in l.run).outside l.k
