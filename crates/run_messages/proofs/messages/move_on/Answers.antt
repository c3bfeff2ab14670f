use native.Mathlib.Omega.{arith}
use mathlib.Core.Path.{refl, sym, ◌∙◌}
use Rattle.run_messages.specs.Messages.{moves_found, moves_nothing}
use Rattle.run_words.specs.Raw.{BoundedEnd}
use Rattle.run_words.specs.ListLaws.{all_weaken}
use Rattle.run_words.specs.Values.{held_in}
use Rattle.check_contexts.specs.Held.{EndIn}
use Rattle.check_contexts.specs.Found.{position_below, sees_there, sees_nothing, retypes_there}
use Rattle.run_alone.specs.Parting.{end_found_lem}
use Rattle.read_tables.specs.Access.{node_there}
use Rattle.run_messages.proofs.messages.move_on.Goals as goal

pub returns-in_default : goal.returns-in_default
returns-in_default c = moves_nothing c.args.text.now c.args.scratch.now c.args.h c.args.n c.args.at (sees_nothing _ _ _ (sym c.position_named.ensures ∙ c.in_default.is)) c.requires.held_in refl

pub end_at-e-requires : goal.end_at-e-requires
end_at-e-requires c = (c.requires.held_in.many, position_below c.args.text.now c.args.h c.args.at _ (sym c.position_named.ensures ∙ c.in-Some.is))

pub after_message-node-requires-clause-type_in : goal.after_message-node-requires-clause-type_in
after_message-node-requires-clause-type_in c = let sees = sees_there c.args.text.now c.args.h c.args.at _ (sym c.position_named.ensures ∙ c.in-Some.is) _ c.end_at-e.ensures.k_value c.end_at-e.ensures.side_lt_side_radix.0 in (end_found_lem {w = c.args.scratch.now} sees refl c.requires.held_in).0.type

pub retype_at-requires-clause-count_le_held_limit : goal.retype_at-requires-clause-count_le_held_limit
retype_at-requires-clause-count_le_held_limit c = let below = position_below c.args.text.now c.args.h c.args.at _ (sym c.position_named.ensures ∙ c.in-Some.is) in (c.requires.held_in.many, below, node_there c.args.text.now c.args.scratch.now c.requires.tables _ c.after_message-node.ensures.type)

pub retype_at-requires-clause-all : goal.retype_at-requires-clause-all
retype_at-requires-clause-all c =
    all_weaken (EndIn c.args.text.now c.args.scratch.now)
    BoundedEnd (λ e b. b.bounds) (held_in c.args.h) c.requires.held_in.each

pub returns : goal.returns
returns c =
    let there = sym c.position_named.ensures ∙ c.in-Some.is in
    moves_found c.args.text.now c.args.scratch.now c.args.h c.args.n c.args.at (sees_there _ _ _ _ there _ c.end_at-e.ensures.k_value c.end_at-e.ensures.side_lt_side_radix.0) c.requires.held_in refl
    c.after_message-node.ensures (retypes_there _ _ _ _ there c.retype_at.ensures)
