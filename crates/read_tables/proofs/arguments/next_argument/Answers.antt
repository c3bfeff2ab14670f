use Rattle.read_tables.specs.Names.{past_comma, no_comma_lem}
use Rattle.read_tables.proofs.arguments.next_argument.Goals as goal

pub returns-then-t-eq-COMMA : goal.returns-then-t-eq-COMMA
returns-then-t-eq-COMMA c = let both = past_comma _ _ _ c.next_lexeme-t.ensures.result_value c.next_lexeme-t.ensures.onward _ _ c.if-t-eq-COMMA.true c.next_lexeme-u.ensures.result_value c.next_lexeme-u.ensures.onward c.as_argument.ensures in record { value = both.0; forward = both.1 }

pub returns : goal.returns
returns c = let both = no_comma_lem _ _ _ c.next_lexeme-t.ensures.result_value c.next_lexeme-t.ensures.onward _ c.if-t-eq-COMMA.false c.as_argument-2.ensures in record { value = both.0; forward = both.1 }
