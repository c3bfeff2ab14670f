use Rattle.std.proofs.Common.{arith}
use Rattle.print_answers.specs.Answers.{place_word}
use Rattle.print_answers.specs.Parts.{none_put, one_put}
use Rattle.print_answers.proofs.lists.put_places.Goals as goal

pub loop-step-init : goal.loop-step-init
loop-step-init c = record { put = none_put place_word _ _; room = omega arith }

pub loop-step-preserved : goal.loop-step-preserved
loop-step-preserved c = record {
  put = one_put place_word _ _ (omega arith) c.loop-step.invariant.put c.put_place-to.ensures.appended;
  room = omega arith;
}
