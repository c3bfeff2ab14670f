use native.Mathlib.Omega.{arith}
use Rattle.run_messages.specs.Meeting.{first_set, first_many, second_of, both_set_lem}
use Rattle.run_alone.specs.Changes.{bounded_of}
use Rattle.run_messages.proofs.meeting.store_both.Goals as goal

pub store-requires-clause-bounded_process : goal.store-requires-clause-bounded_process
store-requires-clause-bounded_process c = bounded_of c.args.text.now c.args.scratch.now c.requires.process_of

pub store-requires-2-clause-bounded_process : goal.store-requires-2-clause-bounded_process
store-requires-2-clause-bounded_process c =
    let text = c.args.text.now in
    let scratch = c.args.scratch.now in
    let run = c.args.run.now in
    let place = c.args.place in
    let j = c.args.j in
    let q = c.args.q in
    let r = c.args.r in bounded_of text scratch (second_of text scratch run _ c.requires.run_of place j q r c.requires.process_of c.requires.process_of_2 c.store.ensures.changed c.store.ensures.still_bounded)

pub returns : goal.returns
returns c =
    both_set_lem c.args.text.now c.args.scratch.now c.args.run.now _ c.requires.run_of c.args.place c.args.j c.args.q c.args.r c.requires.process_of c.requires.process_of_2
    c.store.ensures.changed c.store.ensures.still_bounded _ c.store-2.ensures.changed
    c.store-2.ensures.still_bounded
