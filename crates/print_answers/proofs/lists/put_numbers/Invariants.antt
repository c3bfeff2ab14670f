use Rattle.std.proofs.Common.{◌+◌, ◌*◌, ◌≤◌, take}
use Rattle.print_bytes.specs.Writing.{Appended}
use Rattle.print_answers.specs.Answers.{each_words, number_word}
use Rattle.print_answers.proofs.lists.put_numbers.Given as goal

abbrev pub invariant-loop-n : goal.invariant-loop-n
invariant-loop-n l = record {
  put : Appended l.fn.out l.out l.at l.to (each_words number_word (take l.n-index l.numbers));
  room : l.to ≤ l.at + 11 * l.n-index;
}
