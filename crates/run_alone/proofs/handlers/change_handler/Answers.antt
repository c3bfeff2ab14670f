use Rattle.run_alone.specs.Handlers.{handler_none, handler_place, handler_below, handler_fine, handler_changed}
use Rattle.run_alone.specs.Changes.{loaded, bounded_of}
use Rattle.run_alone.proofs.handlers.change_handler.Goals as goal

pub returns-then-link-eq-UNLINKED : goal.returns-then-link-eq-UNLINKED
returns-then-link-eq-UNLINKED c = handler_none c.args.text.now c.args.scratch.now c.args.run.now c.args.run.now c.requires.run_of c.args.starts c.args.link c.if-link-eq-UNLINKED.true

pub load-h-requires-clause-run_words_in_bounds : goal.load-h-requires-clause-run_words_in_bounds
load-h-requires-clause-run_words_in_bounds c = c.requires.run_of.wide

pub load-h-requires-clause-bounded : goal.load-h-requires-clause-bounded
load-h-requires-clause-bounded c = c.requires.run_of.bounds

pub load-h-requires-clause-i_in_bounds : goal.load-h-requires-clause-i_in_bounds
load-h-requires-clause-i_in_bounds c =
    handler_below c.args.text.now c.args.scratch.now c.args.run.now c.args.run.now c.requires.run_of c.args.starts c.args.link
    c.wide-place.result _ (handler_place c.args.text.now c.args.scratch.now c.args.run.now c.args.run.now c.requires.run_of c.args.starts c.args.link
    c.wide-place.result c.if-link-eq-UNLINKED.false c.wide-place.ensures.value) c.requires.links_below

pub store-requires-clause-run_words_in_bounds : goal.store-requires-clause-run_words_in_bounds
store-requires-clause-run_words_in_bounds c =
    c.requires.run_of.wide

pub store-requires-clause-bounded : goal.store-requires-clause-bounded
store-requires-clause-bounded c =
    c.requires.run_of.bounds

pub store-requires-clause-i_in_bounds : goal.store-requires-clause-i_in_bounds
store-requires-clause-i_in_bounds c =
    let text = c.args.text.now in
    let scratch = c.args.scratch.now in
    let run = c.args.run.now in
    let starts = c.args.starts in
    let link = c.args.link in handler_below text scratch run run c.requires.run_of starts link c.wide-place.result _
    (handler_place text scratch run run c.requires.run_of starts link c.wide-place.result c.if-link-eq-UNLINKED.false c.wide-place.ensures.value) c.requires.links_below

pub store-requires-clause-bounded_process : goal.store-requires-clause-bounded_process
store-requires-clause-bounded_process c =
    let load = c.load-h in
    let text = c.args.text.now in
    let scratch = c.args.scratch.now in
    let run = c.args.run.now in
    let starts = c.args.starts in
    let link = c.args.link in bounded_of _ _
    (handler_fine text scratch run run c.requires.run_of starts link c.wide-place.result load.result
    (loaded _ _ load.result c.requires.run_of (load.ensures.i_value, (load.ensures.bounded_process, load.ensures.count_le_held_limit))) _ c.handler_kind.ensures)

pub returns : goal.returns
returns c =
    let load = c.load-h in
    let text = c.args.text.now in
    let scratch = c.args.scratch.now in
    let run = c.args.run.now in
    handler_changed text scratch run _ c.requires.run_of c.args.starts c.args.link c.wide-place.result load.result
    (loaded _ _ load.result c.requires.run_of (load.ensures.i_value, (load.ensures.bounded_process, load.ensures.count_le_held_limit))) _
    c.handler_kind.ensures (handler_place text scratch run run c.requires.run_of c.args.starts c.args.link c.wide-place.result
    c.if-link-eq-UNLINKED.false c.wide-place.ensures.value) c.store.ensures.changed c.store.ensures.still_bounded
