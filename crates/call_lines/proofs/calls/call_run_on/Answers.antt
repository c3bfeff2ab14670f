use Rattle.print_answers.specs.Answers.{answer_words}
use Rattle.call_lines.specs.Answering.{answered_by_lem}
use Rattle.call_lines.proofs.calls.call_run_on.Goals as goal

pub returns : goal.returns
unfolding answer_words
returns c = answered_by_lem _ c.run_on-answer.ensures c.put_ran_on.ensures
