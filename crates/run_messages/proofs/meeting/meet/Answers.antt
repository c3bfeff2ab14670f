use native.Mathlib.Omega.{arith}
use Rattle.run_messages.specs.Meeting.{meets_other, meets}
use Rattle.run_messages.specs.Room.{room_to_hear}
use Rattle.run_messages.proofs.meeting.meet.Goals as goal

pub party_at-requires-clause-far_at : goal.party_at-requires-clause-far_at
party_at-requires-clause-far_at c = record { end = c.args.sent.over; is = c.requires.over_value }

pub returns-in_default : goal.returns-in_default
returns-in_default c =
    let to = c.in_default.ensures in
    meets_other c.args.text.now c.args.scratch.now c.args.run.now c.args.sent to.party (to.is.far c.args.sent.over c.requires.over_value) to.is.turn c.requires.sending_in.node (λ e. omega (arith, to.idle))

pub overflow_add-n : goal.overflow_add-n
overflow_add-n c = omega (arith, c.requires.sending_in.node.high)

pub returns-then-to-n : goal.returns-then-to-n
returns-then-to-n c =
    let to = c.in-Some.ensures in
    meets_other c.args.text.now c.args.scratch.now c.args.run.now c.args.sent c.in-Some.to (to.far c.args.sent.over c.requires.over_value) to.turn c.requires.sending_in.node c.if-to-n.true

pub hear-requires-clause-receiver_in : goal.hear-requires-clause-receiver_in
hear-requires-clause-receiver_in c = record { stands = c.in-Some.ensures.stands; parts = c.in-Some.ensures.turn.parts }

pub hear-requires-clause-count_lt_held_limit : goal.hear-requires-clause-count_lt_held_limit
hear-requires-clause-count_lt_held_limit c =
    let to = c.in-Some.ensures in
    room_to_hear c.args.text.now c.args.scratch.now c.args.run.now c.requires.well_formed _ _ _ _ to.stands to.turn

pub returns : goal.returns
returns c =
    let to = c.in-Some.ensures in
    meets c.args.text.now c.args.scratch.now c.args.run.now c.args.sent c.in-Some.to (to.far c.args.sent.over c.requires.over_value) to.turn c.hear.ensures
