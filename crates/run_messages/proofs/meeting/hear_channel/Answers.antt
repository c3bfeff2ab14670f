use native.Mathlib.Omega.{arith}
use Rattle.run_messages.specs.Meeting.{parts_at, hears_channel, hears_kind_channel}
use Rattle.run_messages.proofs.meeting.hear_channel.Goals as goal

pub bring_over-held-requires-clause-found_in : goal.bring_over-held-requires-clause-found_in
bring_over-held-requires-clause-found_in c = c.find_end-own.ensures.fits c.args.scratch.now c.requires.receiver_in.stands.is.held

pub bring_over-held-requires-clause-found_in_2 : goal.bring_over-held-requires-clause-found_in_2
bring_over-held-requires-clause-found_in_2 c =
    c.find_end-passed.ensures.fits
    c.args.scratch.now c.requires.sending_in.stands.is.held

pub returns : goal.returns
returns c =
    hears_kind_channel c.args.text.now c.args.scratch.now c.args.run.now c.args.sent c.args.to c.requires.kind_value.0 c.requires.kind_value.1
    (hears_channel c.args.text.now c.args.scratch.now c.args.run.now c.args.sent c.args.to c.bring_over-held.result c.args.to.term.third
    c.go_on.ensures c.requires.kind_value.0 c.find_end-passed.ensures
    c.find_end-own.ensures c.move_on-m.ensures
    c.bring_over-held.ensures)
