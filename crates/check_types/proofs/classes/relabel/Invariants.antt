use Rattle.run_words.specs.Values.{Moved}
use Rattle.trees.specs.Classes.{at, swap}
use Rattle.check_types.proofs.classes.relabel.Given as goal

abbrev pub invariant-loop-representative : goal.invariant-loop-representative
invariant-loop-representative l = Moved l.initial.representatives l.representatives 0 l.representative-index (λ i. swap l.hi l.lo (at l.initial.representatives i))
