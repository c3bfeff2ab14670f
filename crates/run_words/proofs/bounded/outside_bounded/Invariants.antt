use lib.ListN.{take}
use Rattle.run_words.specs.Lists.{All}
use Rattle.run_words.specs.Raw.{raw_in, BoundedOutside}
use Rattle.run_words.proofs.bounded.outside_bounded.Given as goal

abbrev pub invariant-loop-k : goal.invariant-loop-k
invariant-loop-k l = All BoundedOutside (take l.k (raw_in l.run).outside)
