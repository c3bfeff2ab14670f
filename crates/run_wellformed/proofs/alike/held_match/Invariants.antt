use Rattle.run_words.specs.Values.{held_in}
use Rattle.run_wellformed.specs.Alike.{Matching}
use Rattle.run_wellformed.proofs.alike.held_match.Given as goal

abbrev pub invariant-loop-k : goal.invariant-loop-k
invariant-loop-k l = Matching (held_in l.h) (held_in l.g) l.k
