use Rattle.run_messages.specs.Meeting.{stays_on, goes_on_lem}
use Rattle.run_alone.specs.Changes.{bounded_of, stored}
use Rattle.run_messages.proofs.meeting.sender_goes_on.Goals as goal

pub store-requires-clause-bounded_process : goal.store-requires-clause-bounded_process
store-requires-clause-bounded_process c = let a = c.args in bounded_of a.text.now a.scratch.now c.requires.sending_in.after

pub returns-then-link-ne-UNLINKED : goal.returns-then-link-ne-UNLINKED
returns-then-link-ne-UNLINKED c =
    let a = c.args in
    goes_on_lem a.text.now a.scratch.now a.run.now _ a.sent.place _ a.link c.if-link-ne-UNLINKED.true
    (stored a.text.now a.scratch.now a.run.now _ c.requires.run_of a.sent.place a.sent.after c.requires.sending_in.after c.store.ensures.changed c.store.ensures.still_bounded)
