use lib.ListN.{take}
use Rattle.run_words.specs.Lists.{All}
use Rattle.run_wellformed.specs.OfText.{ProcessOf}
use Rattle.run_words.specs.Raw.{raw_in}
use Rattle.run_wellformed.proofs.numbers.processes_stand.Given as goal

abbrev pub invariant-loop-i : goal.invariant-loop-i
invariant-loop-i l = All (ProcessOf l.scratch) (take l.i (raw_in l.run).processes)
