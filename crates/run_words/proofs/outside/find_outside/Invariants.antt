use mathlib.Core.Path.{◌≡◌}
use Rattle.run_words.specs.Raw.{raw_in}
use Rattle.run_words.specs.Operations.{on_channel, outside_at}
use Rattle.run_words.proofs.Searches.{first_from}
use Rattle.run_words.proofs.outside.find_outside.Given as goal

abbrev pub invariant-loop-k : goal.invariant-loop-k
invariant-loop-k l = outside_at l.channel (raw_in l.run).outside ≡ first_from (on_channel l.channel) (raw_in l.run).outside l.k
