use Rattle.run_messages.specs.Meeting.{parts_at, hears_close, hears_kind_close}
use Rattle.run_messages.proofs.meeting.hear_close.Goals as goal

pub go_on-requires-clause-process_in : goal.go_on-requires-clause-process_in
go_on-requires-clause-process_in c = let r = c.requires.receiver_in in (parts_at r c.requires.kind_value.1, c.drop_end-held.ensures.fits c.args.scratch.now r.stands.is.held)

pub returns : goal.returns
returns c =
    let a = c.args in
    hears_kind_close a.text.now a.scratch.now a.run.now a.sent a.to c.requires.kind_value.0 c.requires.kind_value.1
    (hears_close a.text.now a.scratch.now a.run.now a.sent a.to c.drop_end-held.result a.to.term.third c.go_on.ensures
    c.drop_end-held.ensures)
