use Prim.Native.Nat.{ℕ}
use mathlib.Core.List.{List}
use lib.ListN.{drop}
use Rattle.run_words.specs.Values.{Marked}
use Rattle.run_words.specs.Operations.{held_channels}
use Rattle.run_words.proofs.Searches.{held_there}
use Rattle.run_words.proofs.channels.mark_held.Given as goal

abbrev pub invariant-loop-k : goal.invariant-loop-k
invariant-loop-k now = (l : List ℕ) → Marked now.initial.marks l → Marked now.marks (held_channels (drop now.k (held_there now.run now.i)) l)
