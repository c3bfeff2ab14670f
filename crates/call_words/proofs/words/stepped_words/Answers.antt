use Rattle.calculus.specs.Answers.{stepped_as}
use Rattle.call_words.specs.Words.{words_of}
use Rattle.call_words.proofs.words.stepped_words.Goals as goal

pub returns-in-Err : goal.returns-in-Err
unfolding words_of stepped_as
returns-in-Err c = λ i. rw (c.refused_words.ensures, c.in-Err.is)
