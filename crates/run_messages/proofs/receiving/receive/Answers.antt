use mathlib.Core.Path.{sym, ◌∙◌}
use Rattle.run_messages.specs.Receiving.{receives_unheld, receives_on, receives_outside}
use Rattle.run_messages.specs.Room.{held_once}
use Rattle.run_alone.specs.Parting.{end_found_lem}
use Rattle.run_messages.proofs.receiving.receive.Goals as goal

pub returns-in_default : goal.returns-in_default
returns-in_default c = receives_unheld c.args.text.now c.args.scratch.now c.args.run.now c.args.place c.args.p c.args.c c.find_end.ensures c.in_default.is

pub far_end_near-requires-clause-side_lt_side_radix : goal.far_end_near-requires-clause-side_lt_side_radix
far_end_near-requires-clause-side_lt_side_radix c =
    (end_found_lem {w = c.args.scratch.now} c.find_end.ensures c.in-Some.is
    c.requires.stands_at.is.held).1

pub far_end_near-requires-clause-place_in_bounds : goal.far_end_near-requires-clause-place_in_bounds
far_end_near-requires-clause-place_in_bounds c = (c.requires.stands_at.below, held_once c.args.text.now c.args.scratch.now c.args.run.now c.requires.well_formed)

pub returns-in-Process : goal.returns-in-Process
returns-in-Process c =
    let far = sym (sym c.in-Process.is ∙ c.far_end_near.ensures) in
    receives_on c.args.text.now c.args.scratch.now c.args.run.now c.args.place c.args.p c.args.c c.find_end.ensures
    c.in-Some.is (c.answer.ensures.is c.args.place c.args.p c.args.c c.in-Some.e far)

pub returns-in-Outside : goal.returns-in-Outside
returns-in-Outside c =
    let run = c.args.run.now in
    receives_on c.args.text.now c.args.scratch.now run c.args.place c.args.p c.args.c c.find_end.ensures c.in-Some.is
    (receives_outside c.args.text.now c.args.scratch.now run c.args.place c.args.p c.args.c c.in-Some.e _
    (sym c.in-Outside.is ∙ c.far_end_near.ensures))

pub returns-in-GivenUp : goal.returns-in-GivenUp
returns-in-GivenUp c =
    receives_on c.args.text.now c.args.scratch.now c.args.run.now c.args.place c.args.p c.args.c c.find_end.ensures
    c.in-Some.is c.receive_nothing.ensures
