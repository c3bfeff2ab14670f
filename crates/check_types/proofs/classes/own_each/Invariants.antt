use Rattle.std.proofs.Common.{◌≡◌, length}
use Rattle.notation.specs.Limits.{type_term_limit}
use Rattle.run_words.specs.Values.{Moved}
use Rattle.check_types.proofs.classes.own_each.Given as goal

abbrev pub invariant-loop-k : goal.invariant-loop-k
invariant-loop-k l = length l.initial.representatives ≡ type_term_limit → Moved l.initial.representatives l.representatives 0 l.k (λ i. i)
