use Rattle.std.proofs.Common.{sym, ◌∙◌}
use Rattle.check_contexts.specs.Found.{position_below, retypes_there, retypes_nothing}
use Rattle.check_contexts.proofs.held.retype_end.Goals as goal

pub returns-in_default : goal.returns-in_default
returns-in_default c = retypes_nothing _ _ _ (sym c.position_named.ensures ∙ c.in_default.is) _

pub retype_at-requires-clause-count_le_held_limit : goal.retype_at-requires-clause-count_le_held_limit
retype_at-requires-clause-count_le_held_limit c = (c.requires.count_le_held_limit.0, position_below c.args.text.now c.args.h c.args.at _ (sym c.position_named.ensures ∙ c.in-Some.is), c.requires.count_le_held_limit.1)

pub returns : goal.returns
returns c = retypes_there _ _ _ _ (sym c.position_named.ensures ∙ c.in-Some.is) c.retype_at.ensures
