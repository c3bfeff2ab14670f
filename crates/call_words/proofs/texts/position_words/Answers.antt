use Rattle.call_words.specs.Texts.{position_words}
use Rattle.call_words.proofs.texts.position_words.Goals as goal

pub returns : goal.returns
unfolding position_words
returns c = rw (c.padded.ensures, c.as_word-2.ensures, c.as_word.ensures)
