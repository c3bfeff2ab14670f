use Rattle.calculus.specs.Answers.{started_as}
use Rattle.call_words.specs.Words.{words_of}
use Rattle.call_words.proofs.words.started_words.Goals as goal

pub returns-in-Ok : goal.returns-in-Ok
unfolding words_of started_as
returns-in-Ok c = λ s i. rw (c.padded.ensures, c.in-Ok.is)

pub returns-in-Err : goal.returns-in-Err
unfolding words_of started_as
returns-in-Err c = λ s i. rw (c.refused_words.ensures, c.in-Err.is)
