use mathlib.Core.List.{[], map}
use lib.ListN.{drop}
use Rattle.run_words.specs.Raw.{RawOutside, raw_in}
use Rattle.run_words.specs.Values.{Marked}
use Rattle.run_words.proofs.channels.mark_outside.Given as goal

abbrev pub invariant-loop-k : goal.invariant-loop-k
invariant-loop-k l = Marked l.initial.marks [] → Marked l.marks (map (λ (o : RawOutside). o.channel) (drop l.k (raw_in l.run).outside))
