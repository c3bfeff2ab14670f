use Rattle.run_alone.specs.Parting.{folds}
use Rattle.run_words.specs.Raw.{link_of}
use Rattle.run_messages.specs.Meeting.{caught_on, stand_on}
use Rattle.run_messages.proofs.meeting.leave_out.Goals as goal

pub act_as_raise-requires-clause-place_in_bounds : goal.act_as_raise-requires-clause-place_in_bounds
act_as_raise-requires-clause-place_in_bounds c =
    let a = c.args in
    let there = c.requires.receiver_in.stands in
    let b = c.sender_goes_on.ensures in
    (stand_on a.text.now a.scratch.now a.run.now _ a.sent.place _ (link_of a.to.process.link) b there.below
    (folds a.text.now a.scratch.now a.to.process a.held there.is c.requires.held_in)).0

pub act_as_raise-requires-clause-process_of : goal.act_as_raise-requires-clause-process_of
act_as_raise-requires-clause-process_of c =
    let a = c.args in
    let there = c.requires.receiver_in.stands in
    let b = c.sender_goes_on.ensures in
    (stand_on a.text.now a.scratch.now a.run.now _ a.sent.place _ (link_of a.to.process.link) b there.below
    (folds a.text.now a.scratch.now a.to.process a.held there.is c.requires.held_in)).1

pub returns : goal.returns
returns c =
    let a = c.args in
    caught_on a.text.now a.scratch.now a.run.now _ a.sent.place _ _ _ (link_of a.to.process.link) a.to.place _
    c.sender_goes_on.ensures c.act_as_raise.ensures
