use mathlib.Core.Path.{◌∙◌}
use Rattle.check_declarations.specs.Reach.{marked_not, marked_named}
use Rattle.check_declarations.proofs.reach.marked_so.Goals as goal

pub returns-then-mark : goal.returns-then-mark
returns-then-mark c = marked_named _ _ _ _ _ c.if-mark.true c.declared_type.ensures c.names_equal.ensures

pub returns-else-mark : goal.returns-else-mark
returns-else-mark c = c.if-mark.false ∙ marked_not _ _ _ _ _ c.if-mark.false
