use Rattle.std.proofs.Common.{arith}
use Rattle.print_answers.specs.Answers.{number_word}
use Rattle.print_answers.specs.Parts.{none_put, one_put}
use Rattle.print_answers.proofs.lists.put_numbers.Goals as goal

pub loop-n-init : goal.loop-n-init
loop-n-init c = record { put = none_put number_word _ _; room = omega arith }

pub loop-n-preserved : goal.loop-n-preserved
loop-n-preserved c = record {
  put = one_put number_word _ _ (omega arith) c.loop-n.invariant.put c.put_number-to.ensures.appended;
  room = omega arith;
}
