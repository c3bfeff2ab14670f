use Rattle.run_words.specs.Raw.{raw_in}
use Rattle.run_joints.specs.Numbers.{Rise}
use Rattle.run_joints.proofs.numbers.numbers_rise.Given as goal

abbrev pub invariant-loop-k : goal.invariant-loop-k
invariant-loop-k l = Rise (raw_in l.run).outside l.low l.k
