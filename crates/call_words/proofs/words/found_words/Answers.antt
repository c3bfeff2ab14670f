use mathlib.Core.Path.{◌∙◌, ap}
use Rattle.call_words.specs.Words.{padded}
use Rattle.call_words.specs.Warned.{warned_words}
use Rattle.call_words.proofs.words.found_words.Goals as goal

pub returns-in-Some : goal.returns-in-Some
returns-in-Some c = rw c.in-Some.is (c.joined.ensures ∙ ap padded c.missing_words.ensures)

pub returns-in-None : goal.returns-in-None
unfolding warned_words
returns-in-None c = rw (c.padded.ensures, c.in-None.is)
