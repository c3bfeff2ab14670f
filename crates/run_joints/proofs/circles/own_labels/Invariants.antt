use Rattle.run_words.specs.Values.{Moved}
use Rattle.run_joints.proofs.circles.own_labels.Given as goal

abbrev pub invariant-loop-k : goal.invariant-loop-k
invariant-loop-k l = Moved l.initial.labels l.labels 0 l.k (λ x. x)
