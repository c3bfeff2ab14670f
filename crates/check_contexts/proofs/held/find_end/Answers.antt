use Rattle.std.proofs.Common.{rules, sym, ◌∙◌}
use Rattle.check_contexts.specs.Found.{position_below, sees_there, sees_nothing}
use Rattle.check_contexts.proofs.held.find_end.Goals as goal

pub returns-in_err-k : goal.returns-in_err-k
returns-in_err-k c = rw c.from_residual.ensures (sees_nothing _ _ _ (sym c.position_named.ensures ∙ c.in_err-k.was))

pub end_at-requires : goal.end_at-requires
end_at-requires c = (search rules, position_below c.args.text.now c.args.h c.args.at _ (sym c.position_named.ensures ∙ c.in_ok-k.was))

pub returns : goal.returns
returns c = sees_there _ _ _ _ (sym c.position_named.ensures ∙ c.in_ok-k.was) _ c.end_at.ensures.k_value c.end_at.ensures.side_lt_side_radix.0
