use Rattle.std.proofs.Common.{ap}
use Rattle.interpreter.specs.Entries.{places_answer}
use Rattle.print_answers.specs.Answers.{answer_words, surveyed_words}
use Rattle.print_bytes.specs.Writing.{appended_as}
use Rattle.call_lines.specs.Answering.{answer_said}
use Rattle.call_lines.proofs.calls.call_places.Goals as goal

pub returns-in-Ok : goal.returns-in-Ok
unfolding answer_words
returns-in-Ok c = answer_said places_answer _ c.in-Ok.is c.places.ensures.answers (appended_as (ap (surveyed_words _) c.first.ensures) c.put_surveyed.ensures)

pub returns-in-Err : goal.returns-in-Err
unfolding answer_words
returns-in-Err c = answer_said places_answer _ c.in-Err.is c.places.ensures.answers c.put_surveyed-in-Err.ensures
