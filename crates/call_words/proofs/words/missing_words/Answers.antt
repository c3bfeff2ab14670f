use Rattle.call_words.specs.Warned.{warned_words}
use Rattle.call_words.proofs.words.missing_words.Goals as goal

pub returns : goal.returns
unfolding warned_words
returns c = rw (c.label_length.ensures, c.as_word-3.ensures, c.name_word-2.ensures, c.as_word-2.ensures, c.name_word.ensures, c.as_word.ensures)
