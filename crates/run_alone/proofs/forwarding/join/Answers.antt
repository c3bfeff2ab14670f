use mathlib.Core.Path.{sym}
use Rattle.run_alone.specs.Forwarding.{joined_process, joined_outside, joined_nobody}
use Rattle.run_alone.specs.Changes.{stored, bounded_of}
use Rattle.run_alone.proofs.forwarding.join.Goals as goal

pub move_far_end-requires-clause-process_of : goal.move_far_end-requires-clause-process_of
move_far_end-requires-clause-process_of c = c.emptied-q.ensures.fits c.args.text.now c.args.scratch.now _ c.requires.stands_at.is

pub store-requires-clause-bounded_process : goal.store-requires-clause-bounded_process
store-requires-clause-bounded_process c = bounded_of c.args.text.now c.args.scratch.now (c.emptied-q.ensures.fits c.args.text.now c.args.scratch.now _ c.requires.stands_at.is)

pub store-requires-in-GivenUp-clause-bounded_process : goal.store-requires-in-GivenUp-clause-bounded_process
store-requires-in-GivenUp-clause-bounded_process c = bounded_of c.args.text.now c.args.scratch.now (c.emptied-q.ensures.fits c.args.text.now c.args.scratch.now _ c.requires.stands_at.is)

pub returns-in-Process : goal.returns-in-Process
returns-in-Process c =
    joined_process c.args.text.now c.args.scratch.now c.args.run.now _ c.args.place c.args.p _ c.args.e c.args.d c.emptied-q.ensures _ _ c.in-Process.ensures c.move_far_end.ensures

pub returns-in-Outside : goal.returns-in-Outside
returns-in-Outside c =
    let fits = c.emptied-q.ensures.fits c.args.text.now c.args.scratch.now _ c.requires.stands_at.is in
    joined_outside c.args.text.now c.args.scratch.now c.args.run.now _ c.args.place c.args.p _ c.args.e c.args.d c.emptied-q.ensures _ _ c.in-Outside.ensures
    (stored c.args.text.now c.args.scratch.now c.args.run.now _ c.requires.run_of c.args.place _ fits c.store.ensures.changed c.store.ensures.still_bounded) c.reroute_outside.ensures.changed c.reroute_outside.ensures.still_bounded

pub returns-in-GivenUp : goal.returns-in-GivenUp
returns-in-GivenUp c =
    let fits = c.emptied-q.ensures.fits c.args.text.now c.args.scratch.now _ c.requires.stands_at.is in
    joined_nobody c.args.text.now c.args.scratch.now c.args.run.now _ c.args.place c.args.p _ c.args.e c.args.d c.emptied-q.ensures c.in-GivenUp.ensures
    (stored c.args.text.now c.args.scratch.now c.args.run.now _ c.requires.run_of c.args.place _ fits c.store-in-GivenUp.ensures.changed c.store-in-GivenUp.ensures.still_bounded)
