use Rattle.std.proofs.Common.{◌+◌, ◌*◌, ◌≤◌, take}
use Rattle.print_bytes.specs.Writing.{Appended}
use Rattle.print_answers.specs.Answers.{each_words, place_word}
use Rattle.print_answers.proofs.lists.put_places.Given as goal

abbrev pub invariant-loop-step : goal.invariant-loop-step
invariant-loop-step l = record {
  put : Appended l.fn.out l.out l.at l.to (each_words place_word (take l.step-index l.steps));
  room : l.to ≤ l.at + 6 * l.step-index;
}
