use Rattle.print_answers.specs.Answers.{answer_words}
use Rattle.call_lines.specs.Answering.{answered_by_lem}
use Rattle.call_lines.proofs.calls.call_start.Goals as goal

pub returns : goal.returns
unfolding answer_words
returns c = answered_by_lem _ c.start-answer.ensures c.put_started.ensures
