use lib.ListN.{take}
use Rattle.run_words.specs.Lists.{All}
use Rattle.run_wellformed.specs.OfText.{OutsideOf}
use Rattle.run_words.specs.Raw.{raw_in}
use Rattle.run_wellformed.proofs.numbers.outside_stands.Given as goal

abbrev pub invariant-loop-k : goal.invariant-loop-k
invariant-loop-k l = All (OutsideOf l.scratch) (take l.k (raw_in l.run).outside)
