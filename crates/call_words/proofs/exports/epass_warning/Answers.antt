use Rattle.call_words.specs.Warned.{warning_short, warning_told}
use Rattle.call_words.proofs.exports.epass_warning.Goals as goal

pub returns-then-answer-lt-ANSWER_WORDS : goal.returns-then-answer-lt-ANSWER_WORDS
returns-then-answer-lt-ANSWER_WORDS c = warning_short c.if-answer-lt-ANSWER_WORDS.true

pub returns : goal.returns
returns c = warning_told c.if-answer-lt-ANSWER_WORDS.false c.warning-told.ensures c.warned_words.ensures c.tell.ensures
