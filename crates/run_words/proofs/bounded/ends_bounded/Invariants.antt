use lib.ListN.{take}
use Rattle.run_words.specs.Lists.{All}
use Rattle.run_words.specs.Raw.{BoundedEnd}
use Rattle.run_words.specs.Values.{held_in}
use Rattle.run_words.proofs.bounded.ends_bounded.Given as goal

abbrev pub invariant-loop-k : goal.invariant-loop-k
invariant-loop-k l = All BoundedEnd (take l.k (held_in l.h))
