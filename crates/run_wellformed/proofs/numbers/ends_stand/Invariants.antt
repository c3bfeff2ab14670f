use lib.ListN.{take}
use Rattle.run_words.specs.Lists.{All}
use Rattle.run_wellformed.specs.OfText.{EndOf}
use Rattle.run_words.specs.Values.{held_in}
use Rattle.run_wellformed.proofs.numbers.ends_stand.Given as goal

abbrev pub invariant-loop-k : goal.invariant-loop-k
invariant-loop-k l = All (EndOf l.scratch) (take l.k (held_in l.h))
