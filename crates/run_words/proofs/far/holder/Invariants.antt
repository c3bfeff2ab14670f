use mathlib.Core.Path.{◌≡◌}
use Rattle.run_words.specs.Raw.{raw_in, side_of}
use Rattle.run_words.specs.Operations.{holder_of}
use Rattle.run_words.proofs.Searches.{holder_from}
use Rattle.run_words.proofs.far.holder.Given as goal

abbrev pub invariant-loop-i : goal.invariant-loop-i
invariant-loop-i l = holder_of l.channel (side_of l.side) (raw_in l.run).processes ≡ holder_from l.channel (side_of l.side) (raw_in l.run).processes l.i
