use mathlib.Core.Path.{ap}
use Rattle.notation.specs.declared.token.Token.{Token}
use Rattle.read_tables.proofs.arguments.list_start.Goals as goal

pub returns : goal.returns
returns c = ap (λ (t : Token). t.end) c.next_lexeme-t.ensures.result_value
