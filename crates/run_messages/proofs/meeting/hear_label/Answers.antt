use Rattle.run_messages.specs.Meeting.{parts_at, hears_label, hears_nothing, hears_kind_label}
use Rattle.run_messages.proofs.meeting.hear_label.Goals as goal

pub returns-in-Some : goal.returns-in-Some
returns-in-Some c =
    let move-on = c.move_on-held in
    let a = c.args in
    hears_kind_label a.text.now a.scratch.now a.run.now a.sent a.to c.requires.kind_value.0 c.requires.kind_value.1
    (hears_label a.text.now a.scratch.now a.run.now a.sent a.to move-on.result c.requires.kind_value.0 c.branch_of.ensures move-on.ensures _ c.in-Some.is
    c.go_on.ensures)

pub returns-in-None : goal.returns-in-None
returns-in-None c =
    let move-on = c.move_on-held in
    let a = c.args in
    hears_kind_label a.text.now a.scratch.now a.run.now a.sent a.to c.requires.kind_value.0 c.requires.kind_value.1
    (hears_nothing a.text.now a.scratch.now a.run.now a.sent a.to move-on.result c.requires.kind_value.0 c.branch_of.ensures move-on.ensures
    c.in-None.is c.leave_out.ensures)
