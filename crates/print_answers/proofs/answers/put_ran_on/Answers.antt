use Rattle.print_answers.specs.Answers.{ran_on_words}
use Rattle.print_answers.specs.Parts.{said, shown_put}
use Rattle.print_answers.proofs.answers.put_ran_on.Goals as goal

pub returns-in-Ok-Shown : goal.returns-in-Ok-Shown
unfolding ran_on_words
returns-in-Ok-Shown c = said (ran_on_words c.args.text.now) c.in-Ok-Shown.is (rw c.in-Ok-Shown.is at c.in-Ok-Shown.field-0-is) (shown_put _ c.put_steps-a.ensures.appended c.put_seen.ensures)

pub returns-in-Ok-Done : goal.returns-in-Ok-Done
unfolding ran_on_words
returns-in-Ok-Done c = said (ran_on_words c.args.text.now) c.in-Ok-Done.is (rw c.in-Ok-Done.is at c.in-Ok-Done.field-0-is) c.put_steps.ensures.appended

pub returns-in-Ok-Full : goal.returns-in-Ok-Full
unfolding ran_on_words
returns-in-Ok-Full c = said (ran_on_words c.args.text.now) c.in-Ok-Full.is (rw c.in-Ok-Full.is at c.in-Ok-Full.field-0-is) c.put_steps-in-Ok-Full.ensures.appended

pub returns-in-Ok-Stopped : goal.returns-in-Ok-Stopped
unfolding ran_on_words
returns-in-Ok-Stopped c = said (ran_on_words c.args.text.now) c.in-Ok-Stopped.is (rw c.in-Ok-Stopped.is at c.in-Ok-Stopped.field-0-is) c.put_steps-in-Ok-Stopped.ensures.appended

pub returns-in-Ok-Uncaught : goal.returns-in-Ok-Uncaught
unfolding ran_on_words
returns-in-Ok-Uncaught c = said (ran_on_words c.args.text.now) c.in-Ok-Uncaught.is (rw c.in-Ok-Uncaught.is at c.in-Ok-Uncaught.field-0-is) c.put_steps-in-Ok-Uncaught.ensures.appended
