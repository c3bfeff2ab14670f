use lib.ListN.{drop}
use Rattle.run_words.specs.Values.{held_in}
use Rattle.run_wellformed.specs.Kept.{Kept, Left}
use Rattle.run_wellformed.proofs.fitting.enter_held.Given as goal

abbrev pub invariant-loop-k : goal.invariant-loop-k
invariant-loop-k l = Kept l.scratch l.seen × Left l.text l.scratch l.initial.seen l.seen (held_in l.h) (drop l.k (held_in l.h))
