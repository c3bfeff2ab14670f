use mathlib.Core.Path.{◌≡◌}
use Rattle.run_words.specs.Operations.{first}
use Rattle.run_words.specs.Values.{held_in}
use Rattle.run_words.proofs.Searches.{first_from}
use Rattle.check_contexts.specs.Held.{held_by, is_named}
use Rattle.check_contexts.proofs.held.position_in.Given as goal

abbrev pub invariant-loop-k : goal.invariant-loop-k
invariant-loop-k l = first (is_named l.text l.at) (held_in (held_by l.n l.ends)) ≡ first_from (is_named l.text l.at) (held_in (held_by l.n l.ends)) l.k
