use mathlib.Core.Path.{◌≡◌}
use lib.ListN.{length}
use Rattle.check_contexts.specs.Initials.{initial_radix, Initials}
use Rattle.check_contexts.proofs.initials.held_initials.Given as goal

abbrev pub invariant-loop-k : goal.invariant-loop-k
invariant-loop-k l = (length l.r ≡ initial_radix) × Initials l.text l.ends l.k l.r
