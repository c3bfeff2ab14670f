use Rattle.call_words.specs.Words.{as_word}
use borrow.Author.Tests.{lt-ltb, le-ltb}
use Rattle.call_words.proofs.words.as_word.Goals as goal

pub returns-then-n-lt-LAST_WORD : goal.returns-then-n-lt-LAST_WORD
unfolding as_word
returns-then-n-lt-LAST_WORD c = rw (lt-ltb _ _ c.if-n-lt-LAST_WORD.true)

pub returns : goal.returns
unfolding as_word
returns c = rw (le-ltb _ _ c.if-n-lt-LAST_WORD.false)
