use mathlib.Core.Path.{ap₂, ◌∙◌}
use Rattle.notation.specs.Token.{token}
use Rattle.notation.proofs.Tokens.{lies_onward}
use Rattle.notation.proofs.token.next_token.Goals as goal

pub returns : goal.returns
returns c = let both = lies_onward _ _ _ (ap₂ (token c.next_lexeme-t.result.kind) c.offset.ensures c.offset-2.ensures ∙ c.next_lexeme-t.ensures.result_value) in record { value = both.0; onward = both.1 }
