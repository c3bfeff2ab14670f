use Rattle.call_words.specs.Texts.{reading_words}
use Rattle.call_words.proofs.texts.reading_words.Goals as goal

pub returns-in-Ok : goal.returns-in-Ok
unfolding reading_words
returns-in-Ok c = rw (c.padded.ensures, c.in-Ok.is)

pub returns-in-Err : goal.returns-in-Err
unfolding reading_words
returns-in-Err c = rw (c.refused_words.ensures, c.in-Err.is)
