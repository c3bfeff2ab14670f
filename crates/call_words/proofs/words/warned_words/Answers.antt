use Rattle.call_words.specs.Warned.{warned_words}
use Rattle.call_words.proofs.words.warned_words.Goals as goal

pub returns-in-Err : goal.returns-in-Err
unfolding warned_words
returns-in-Err c = rw (c.refused_words.ensures, c.in-Err.is)
