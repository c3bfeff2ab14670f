use Rattle.call_words.specs.Texts.{too_short, long_enough, tables_told}
use borrow.Author.Rules.{rules}
use Rattle.call_words.proofs.texts.epass_tables.Goals as goal

pub returns-then-answer-lt-ANSWER_WORDS : goal.returns-then-answer-lt-ANSWER_WORDS
returns-then-answer-lt-ANSWER_WORDS c = too_short c.if-answer-lt-ANSWER_WORDS.true

pub returns : goal.returns
returns c = long_enough (search rules) (tables_told c.read-r.ensures c.reading_words.ensures c.tell.ensures)
