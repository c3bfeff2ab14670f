use Rattle.print_answers.specs.Answers.{answer_words}
use Rattle.call_lines.specs.Answering.{answered_by_lem}
use Rattle.call_lines.proofs.calls.call_name.Goals as goal

pub returns : goal.returns
unfolding answer_words
returns c = answered_by_lem _ c.exec_name-name.ensures.names c.put_named.ensures
