use Prim.Native.Nat.{ℕ}
use mathlib.Core.List.{List}
use lib.ListN.{drop}
use Rattle.run_words.specs.Raw.{raw_in}
use Rattle.run_words.specs.Values.{Marked}
use Rattle.run_words.specs.Operations.{process_channels}
use Rattle.run_words.proofs.channels.mark_processes.Given as goal

abbrev pub invariant-loop-i : goal.invariant-loop-i
invariant-loop-i now = (l : List ℕ) → Marked now.initial.marks l → Marked now.marks (process_channels (drop now.i (raw_in now.run).processes) l)
