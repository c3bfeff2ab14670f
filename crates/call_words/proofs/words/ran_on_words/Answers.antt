use Rattle.calculus.specs.Answers.{ran_on_as}
use Rattle.call_words.specs.Words.{words_of}
use Rattle.call_words.proofs.words.ran_on_words.Goals as goal

pub returns-in-Err : goal.returns-in-Err
unfolding words_of ran_on_as
returns-in-Err c = λ i. rw (c.refused_words.ensures, c.in-Err.is)
