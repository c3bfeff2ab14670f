use lib.ListN.{drop}
use Rattle.run_words.specs.Raw.{raw_in}
use Rattle.run_wellformed.specs.Kept.{process_ends, Kept, Left}
use Rattle.run_wellformed.proofs.fitting.enter_processes.Given as goal

abbrev pub invariant-loop-i : goal.invariant-loop-i
invariant-loop-i l =
    Kept l.scratch l.seen × Left l.text l.scratch l.initial.seen l.seen (process_ends (raw_in l.run).processes)
    (process_ends (drop l.i (raw_in l.run).processes))
