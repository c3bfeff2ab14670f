use lib.ListN.{length}
use mathlib.Core.Path.{◌≡◌}
use Rattle.notation.specs.Token.{name_at}
use Rattle.run_words.specs.Raw.{held_count}
use Rattle.run_words.specs.Operations.{first}
use Rattle.run_words.proofs.Searches.{held_there, first_from}
use Rattle.check_contexts.specs.Held.{is_named}
use Rattle.run_messages.proofs.waiting.end_named.Given as goal

abbrev pub invariant-loop-k : goal.invariant-loop-k
invariant-loop-k l = (l.n ≡ held_count l.run l.i) × (l.m ≡ length (name_at l.text l.at)) × (first (is_named l.text l.at) (held_there l.run l.i) ≡ first_from (is_named l.text l.at) (held_there l.run l.i) l.k)
