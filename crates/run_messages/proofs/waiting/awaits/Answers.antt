use native.Mathlib.Omega.{arith}
use borrow.Author.Tests.{ltb-true}
use Rattle.run_words.specs.SliceLaws.{held_few}
use Rattle.run_alone.specs.Parting.{end_found_lem}
use Rattle.run_messages.specs.Room.{held_once}
use Rattle.run_messages.specs.Messages.{idle_heard}
use Rattle.run_messages.specs.Waiting.{awaits_kind, partner_few, partner_holds, partner_there, partner_turns, value_stands, value_term}
use Rattle.run_messages.proofs.waiting.awaits.Goals as goal

pub end_named-requires-clause-i_bound : goal.end_named-requires-clause-i_bound
end_named-requires-clause-i_bound c = held_few c.args.run.now c.args.place c.requires.run_of.bounds c.requires.place_in_bounds

pub far_end_near-requires-clause-side_lt_side_radix : goal.far_end_near-requires-clause-side_lt_side_radix
far_end_near-requires-clause-side_lt_side_radix c = (end_found_lem {w = c.args.scratch.now} c.end_named.ensures c.in-Some.is (value_stands c.requires.run_of c.args.place c.requires.place_in_bounds).is.held).1

pub far_end_near-requires-clause-place_in_bounds : goal.far_end_near-requires-clause-place_in_bounds
far_end_near-requires-clause-place_in_bounds c = (c.requires.place_in_bounds, held_once c.args.text.now c.args.scratch.now c.args.run.now c.requires.well_formed)

pub held_end-y-requires-clause-run_words_in_bounds : goal.held_end-y-requires-clause-run_words_in_bounds
held_end-y-requires-clause-run_words_in_bounds c =
    let there = partner_there c.requires.run_of c.in-Some.e c.in-Process.ensures in
    let few = partner_few c.requires.run_of c.in-Some.e c.in-Process.ensures in
    let holds = partner_holds c.requires.run_of c.in-Some.e c.in-Process.ensures in
    (c.requires.run_of.wide, omega (arith, there, c.requires.run_of.bounds.places), omega (arith, few, holds))

pub held_end-y-requires-clause-k_bound : goal.held_end-y-requires-clause-k_bound
held_end-y-requires-clause-k_bound c = partner_holds c.requires.run_of c.in-Some.e c.in-Process.ensures

pub doing-d-requires : goal.doing-d-requires
doing-d-requires c = (c.requires.run_of.wide, omega (arith, partner_there c.requires.run_of c.in-Some.e c.in-Process.ensures, c.requires.run_of.bounds.places))

pub turn_on-requires-clause-process_in : goal.turn_on-requires-clause-process_in
turn_on-requires-clause-process_in c = value_term c.requires.run_of _ (partner_there c.requires.run_of c.in-Some.e c.in-Process.ensures) _ _ c.doing-d.ensures.0 c.doing-d.ensures.1

pub returns-then-t-first : goal.returns-then-t-first
returns-then-t-first c =
    awaits_kind (partner_turns c.requires.run_of c.in-Some.e c.in-Process.ensures c.in-Some.ensures _ _ _ _ c.held_end-y.ensures.k_value c.doing-d.ensures.0 c.doing-d.ensures.1 c.in-Some-turn_on.ensures)
    (λ z a b. omega (arith, a, c.if-t-first.true))

pub returns-else-t-first : goal.returns-else-t-first
returns-else-t-first c =
    awaits_kind (partner_turns c.requires.run_of c.in-Some.e c.in-Process.ensures c.in-Some.ensures _ _ _ _ c.held_end-y.ensures.k_value c.doing-d.ensures.0 c.doing-d.ensures.1 c.in-Some-turn_on.ensures)
    (λ z a b. omega (arith, b, ltb-true _ _ z))

pub returns-in-None : goal.returns-in-None
returns-in-None c =
    awaits_kind (partner_turns c.requires.run_of c.in-Some.e c.in-Process.ensures c.in-Some.ensures _ _ _ _ c.held_end-y.ensures.k_value c.doing-d.ensures.0 c.doing-d.ensures.1 (idle_heard _ _ _ c.in-None.ensures))
    (λ z a b. omega (arith, a, c.requires.send_unit_kind_le_first))
