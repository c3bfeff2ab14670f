use Rattle.call_words.specs.Texts.{token_words}
use Rattle.call_words.proofs.texts.token_words.Goals as goal

pub returns : goal.returns
unfolding token_words
returns c = rw (c.padded.ensures, c.as_word-3.ensures, c.as_word-2.ensures, c.as_word.ensures)
