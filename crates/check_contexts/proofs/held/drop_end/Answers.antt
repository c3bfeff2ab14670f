use Rattle.std.proofs.Common.{rules, sym, ◌∙◌}
use Rattle.check_contexts.specs.Found.{position_below, drops_there, drops_nothing}
use Rattle.check_contexts.proofs.held.drop_end.Goals as goal

pub returns-in_default : goal.returns-in_default
returns-in_default c = drops_nothing _ _ _ (sym c.position_named.ensures ∙ c.in_default.is)

pub without-requires : goal.without-requires
without-requires c = (search rules, position_below c.args.text.now c.args.h c.args.at _ (sym c.position_named.ensures ∙ c.in-Some.is))

pub returns : goal.returns
returns c = drops_there _ _ _ _ (sym c.position_named.ensures ∙ c.in-Some.is) _ c.without.ensures.result_value c.without.ensures.count_value
