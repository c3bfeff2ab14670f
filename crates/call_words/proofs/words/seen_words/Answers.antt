use Rattle.calculus.specs.Answers.{seen_values}
use Rattle.call_words.specs.Words.{seen_words}
use Rattle.call_words.proofs.words.seen_words.Goals as goal

pub returns-in-Nothing : goal.returns-in-Nothing
unfolding seen_words seen_values
returns-in-Nothing c = rw c.in-Nothing.is

pub returns-in-Label : goal.returns-in-Label
unfolding seen_words seen_values
returns-in-Label c = rw (c.in-Label.is, c.label_length.ensures)

pub returns-in-Close : goal.returns-in-Close
unfolding seen_words seen_values
returns-in-Close c = rw c.in-Close.is

pub returns-in-Passed : goal.returns-in-Passed
unfolding seen_words seen_values
returns-in-Passed c = rw c.in-Passed.is

pub returns-in-Cancelled : goal.returns-in-Cancelled
unfolding seen_words seen_values
returns-in-Cancelled c = rw c.in-Cancelled.is
