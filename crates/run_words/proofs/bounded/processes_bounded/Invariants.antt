use lib.ListN.{length, take}
use Rattle.run_words.specs.Lists.{All}
use Rattle.run_words.specs.Raw.{raw_in, BoundedProcess}
use Rattle.run_words.proofs.bounded.processes_bounded.Given as goal

abbrev pub invariant-loop-i : goal.invariant-loop-i
invariant-loop-i l = All (BoundedProcess (length (raw_in l.run).processes)) (take l.i (raw_in l.run).processes)
