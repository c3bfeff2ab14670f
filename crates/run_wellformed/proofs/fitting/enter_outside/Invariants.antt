use lib.ListN.{drop}
use mathlib.Core.List.{map}
use Rattle.run_words.specs.Raw.{raw_in}
use Rattle.run_wellformed.specs.Kept.{outside_end, Kept, Left}
use Rattle.run_wellformed.proofs.fitting.enter_outside.Given as goal

abbrev pub invariant-loop-k : goal.invariant-loop-k
invariant-loop-k l =
    Kept l.scratch l.seen × Left l.text l.scratch l.initial.seen l.seen (map outside_end (raw_in l.run).outside)
    (map outside_end (drop l.k (raw_in l.run).outside))
