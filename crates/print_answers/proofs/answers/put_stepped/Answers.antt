use Rattle.print_bytes.specs.Writing.{appended_on}
use Rattle.print_answers.specs.Answers.{stepped_words}
use Rattle.print_answers.specs.Parts.{said}
use Rattle.print_answers.proofs.answers.put_stepped.Goals as goal

pub returns-in-Ok-Carried : goal.returns-in-Ok-Carried
unfolding stepped_words
returns-in-Ok-Carried c = said (stepped_words c.args.text.now) c.in-Ok-Carried.is (rw c.in-Ok-Carried.is at c.in-Ok-Carried.field-0-is) (appended_on c.put-a.ensures c.put_seen.ensures)
