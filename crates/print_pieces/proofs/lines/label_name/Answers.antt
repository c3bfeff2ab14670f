use mathlib.Core.Path.{◌∙◌}
use Rattle.print_pieces.specs.Lines.{past_same}
use native.Mathlib.Omega.{arith}
use Rattle.print_pieces.proofs.lines.label_name.Goals as goal

pub returns : goal.returns
returns c = c.name_of-2.ensures ∙ past_same c.args.text.now _ (omega (arith, c.if-label-text.false))
