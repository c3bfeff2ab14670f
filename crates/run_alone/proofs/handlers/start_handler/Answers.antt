use native.Mathlib.Omega.{arith}
use mathlib.Core.Bool.{true}
use Rattle.run_words.specs.Values.{of_link}
use Rattle.run_alone.specs.Handlers.{as_many, unlinked_fine, handler_started}
use Rattle.run_alone.specs.Changes.{bounded_of}
use Rattle.run_alone.proofs.handlers.start_handler.Goals as goal

pub change_handler-requires-clause-run_of : goal.change_handler-requires-clause-run_of
change_handler-requires-clause-run_of c = c.requires.run_of

pub change_handler-requires-clause-links_below : goal.change_handler-requires-clause-links_below
change_handler-requires-clause-links_below c = c.requires.process_of.link

pub store-requires-clause-run_words_in_bounds : goal.store-requires-clause-run_words_in_bounds
store-requires-clause-run_words_in_bounds c =
    let b = c.change_handler.ensures in
    b.run.wide

pub store-requires-clause-bounded : goal.store-requires-clause-bounded
store-requires-clause-bounded c =
    let b = c.change_handler.ensures in
    b.run.bounds

pub store-requires-clause-i_in_bounds : goal.store-requires-clause-i_in_bounds
store-requires-clause-i_in_bounds c =
    let b = c.change_handler.ensures in
    let text = c.args.text.now in
    let scratch = c.args.scratch.now in omega (arith, as_many text scratch c.args.run.now _ true c.args.p.link b, c.requires.place_in_bounds)

pub store-requires-clause-bounded_process : goal.store-requires-clause-bounded_process
store-requires-clause-bounded_process c =
    let text = c.args.text.now in
    let scratch = c.args.scratch.now in bounded_of text scratch {p = of_link 0 c.args.p} (unlinked_fine c.args.p c.requires.process_of)

pub returns : goal.returns
returns c =
    handler_started c.args.text.now c.args.scratch.now c.args.run.now _ _ c.args.place c.args.p c.requires.process_of
    c.change_handler.ensures c.store.ensures.changed c.store.ensures.still_bounded
