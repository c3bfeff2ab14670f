use Rattle.run_words.specs.Raw.{raw_in}
use Rattle.run_joints.specs.Tests.{Each}
use Rattle.run_joints.specs.Numbers.{is_given}
use Rattle.run_joints.proofs.numbers.numbers_given.Given as goal

abbrev pub invariant-loop-k : goal.invariant-loop-k
invariant-loop-k l = Each (is_given (raw_in l.run).given) (raw_in l.run).outside l.k
