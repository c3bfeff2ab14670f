use mathlib.Core.Path.{◌∙◌, ap}
use Rattle.call_words.specs.Words.{padded}
use Rattle.call_words.specs.Texts.{token_words, lexeme, too_short, long_enough, written}
use borrow.Author.Rules.{rules}
use Rattle.call_words.proofs.texts.epass_token.Goals as goal

pub returns-then-answer-lt-ANSWER_WORDS : goal.returns-then-answer-lt-ANSWER_WORDS
returns-then-answer-lt-ANSWER_WORDS c = too_short c.if-answer-lt-ANSWER_WORDS.true

pub returns : goal.returns
returns c = long_enough (search rules) (written _ (c.token_words.ensures ∙ ap (λ t. padded (token_words (lexeme t))) c.next_lexeme-t.ensures.result_value) c.tell.ensures)
