use Rattle.std.proofs.Common.{ap, ◌∙◌, arith}
use Rattle.std.proofs.lemmas.List.{take_min}
use Rattle.call_positions.specs.Position.{first, along, position_at}
use Rattle.call_positions.proofs.position.position_at.Goals as goal

pub returns : goal.returns
unfolding position_at
returns c = c.after.ensures ∙ ap (λ l. along l first) (grind (arith, take_min))
