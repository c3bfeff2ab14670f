use mathlib.Core.Path.{◌≡◌}
use Rattle.run_words.specs.Raw.{side_of}
use Rattle.run_words.specs.Operations.{held_at}
use Rattle.run_words.proofs.Searches.{held_there, held_from}
use Rattle.run_words.proofs.far.place_holds.Given as goal

abbrev pub invariant-loop-k : goal.invariant-loop-k
invariant-loop-k l = held_at l.channel (side_of l.side) (held_there l.run l.i) ≡ held_from l.channel l.side l.run l.i l.k
