use lib.ListN.{get_or}
use Rattle.theory_decision.specs.Circles.{relabelled}
use Rattle.run_words.specs.Values.{Moved}
use Rattle.run_joints.proofs.circles.relabel.Given as goal

abbrev pub invariant-loop-label : goal.invariant-loop-label
invariant-loop-label l = Moved l.initial.labels l.labels 0 l.label-index (relabelled l.a l.b (λ x. get_or l.initial.labels x 0))
