use borrow.Author.Tests.{lt-ltb, le-ltb}
use Rattle.notation.specs.Token.{token_at}
use Rattle.notation.proofs.Tokens.{lies_onward}
use Rattle.notation.proofs.token.next_lexeme.Goals as goal

pub returns-then-i-text : goal.returns-then-i-text
unfolding token_at
returns-then-i-text c = let both = lies_onward _ _ _ (rw (← c.skip-i.ensures, lt-ltb _ _ c.if-i-text.true, ← c.first_at.ensures)) in record { result_value = both.0; onward = both.1 }

pub returns : goal.returns
unfolding token_at
returns c = let both = lies_onward _ _ _ (rw (← c.skip-i.ensures, le-ltb _ _ c.if-i-text.false)) in record { result_value = both.0; onward = both.1 }
