use mathlib.Core.Path.{refl}
use native.Mathlib.Omega.{arith}
use Rattle.run_alone.specs.Trying.{tries_nowhere, handler_of, one_more, tried_of, tries, handler_came}
use Rattle.run_alone.specs.Changes.{bounded_of}
use Rattle.run_words.specs.Bounds.{link_word}
use Rattle.run_alone.proofs.trying.try_both.Goals as goal

pub count-requires : goal.count-requires
count-requires c = c.requires.run_of.wide

pub returns-then-count-ge-PROCESS_PLACES : goal.returns-then-count-ge-PROCESS_PLACES
returns-then-count-ge-PROCESS_PLACES c =
    tries_nowhere c.args.text.now c.args.scratch.now c.args.run.now c.requires.run_of c.args.place c.args.p c.requires.stands_at c.args.first c.args.second c.requires.process_in
    c.requires.process_in_2 (omega (arith, c.if-count-ge-PROCESS_PLACES.true, c.count.ensures))

pub try_half-ours-requires-clause-tables : goal.try_half-ours-requires-clause-tables
try_half-ours-requires-clause-tables c = c.requires.run_of.tables

pub try_half-ours-requires-clause-process_in : goal.try_half-ours-requires-clause-process_in
try_half-ours-requires-clause-process_in c = c.requires.process_in

pub try_half-ours-requires-clause-held_in : goal.try_half-ours-requires-clause-held_in
try_half-ours-requires-clause-held_in c = c.requires.stands_at.is.held

pub try_half-theirs-requires-clause-tables : goal.try_half-theirs-requires-clause-tables
try_half-theirs-requires-clause-tables c = c.requires.run_of.tables

pub try_half-theirs-requires-clause-process_in : goal.try_half-theirs-requires-clause-process_in
try_half-theirs-requires-clause-process_in c = c.requires.process_in_2

pub try_half-theirs-requires-clause-held_in : goal.try_half-theirs-requires-clause-held_in
try_half-theirs-requires-clause-held_in c = c.requires.stands_at.is.held

pub moved_link-link-requires : goal.moved_link-link-requires
moved_link-link-requires c = (omega (arith, link_word _ c.args.p.link c.requires.stands_at.is.link, c.requires.run_of.bounds.places), omega (arith, c.requires.stands_at.below, c.requires.run_of.bounds.places))

pub insert-requires-clause-run_words_in_bounds : goal.insert-requires-clause-run_words_in_bounds
insert-requires-clause-run_words_in_bounds c = c.requires.run_of.wide

pub insert-requires-clause-bounded : goal.insert-requires-clause-bounded
insert-requires-clause-bounded c = c.requires.run_of.bounds

pub insert-requires-clause-i_in_bounds : goal.insert-requires-clause-i_in_bounds
insert-requires-clause-i_in_bounds c = (
  c.requires.stands_at.below,
  (omega (
    arith,
    c.if-count-ge-PROCESS_PLACES.false,
    c.count.ensures,
  )),
)

pub insert-requires-clause-bounded_process : goal.insert-requires-clause-bounded_process
insert-requires-clause-bounded_process c =
    bounded_of c.args.text.now c.args.scratch.now (handler_of c.args.text.now c.args.scratch.now
    c.args.run.now c.requires.run_of c.args.place c.args.p c.requires.stands_at c.args.first c.args.second c.requires.process_in c.requires.process_in_2 _ _ c.moved_link-link.ensures
    c.try_half-theirs.ensures.fits)

pub overflow_add-q : goal.overflow_add-q
overflow_add-q c = omega (arith, c.requires.stands_at.below, c.requires.run_of.bounds.places)

pub overflow_cast-q : goal.overflow_cast-q
overflow_cast-q c = omega (arith, c.requires.stands_at.below, c.requires.run_of.bounds.places)

pub store-requires-clause-run_words_in_bounds : goal.store-requires-clause-run_words_in_bounds
store-requires-clause-run_words_in_bounds c =
    let moved-link = c.moved_link-link in
    let try-half2 = c.try_half-theirs in
    let try-half = c.try_half-ours in
    let text = c.args.text.now in
    let scratch = c.args.scratch.now in
    let run = c.args.run.now in
    let place = c.args.place in
    let p = c.args.p in
    let first = c.args.first in
    let second = c.args.second in (handler_came text scratch run c.requires.run_of place p c.requires.stands_at first second c.requires.process_in c.requires.process_in_2 _ _ _ _ moved-link.ensures try-half.ensures
    try-half2.ensures c.insert.ensures.changed c.insert.ensures.still_bounded).run.wide

pub store-requires-clause-bounded : goal.store-requires-clause-bounded
store-requires-clause-bounded c =
    c.insert.ensures.still_bounded

pub store-requires-clause-i_in_bounds : goal.store-requires-clause-i_in_bounds
store-requires-clause-i_in_bounds c =
    let moved-link = c.moved_link-link in
    let try-half2 = c.try_half-theirs in
    let try-half = c.try_half-ours in
    let text = c.args.text.now in
    let scratch = c.args.scratch.now in
    let run = c.args.run.now in
    let place = c.args.place in
    let p = c.args.p in
    let first = c.args.first in
    let second = c.args.second in omega (
      arith,
      one_more text scratch run c.requires.run_of place p c.requires.stands_at first second c.requires.process_in c.requires.process_in_2 _ _ _ _ moved-link.ensures
          try-half.ensures try-half2.ensures c.insert.ensures.changed c.insert.ensures.still_bounded,
      c.requires.stands_at.below,
    )

pub store-requires-clause-bounded_process : goal.store-requires-clause-bounded_process
store-requires-clause-bounded_process c =
    let moved-link = c.moved_link-link in
    let try-half2 = c.try_half-theirs in
    let try-half = c.try_half-ours in
    let text = c.args.text.now in
    let scratch = c.args.scratch.now in
    let run = c.args.run.now in
    let place = c.args.place in
    let p = c.args.p in
    let first = c.args.first in
    let second = c.args.second in bounded_of text scratch (tried_of text scratch run c.requires.run_of place p
    c.requires.stands_at first second c.requires.process_in c.requires.process_in_2 _ _ _ _ moved-link.ensures try-half.ensures try-half2.ensures c.insert.ensures.changed c.insert.ensures.still_bounded _
    refl)

pub returns : goal.returns
returns c =
    tries c.args.text.now c.args.scratch.now c.args.run.now c.requires.run_of c.args.place c.args.p c.requires.stands_at c.args.first
    c.args.second c.requires.process_in c.requires.process_in_2 _ _ _ _ c.moved_link-link.ensures c.try_half-ours.ensures
    c.try_half-theirs.ensures c.insert.ensures.changed c.insert.ensures.still_bounded _ _ refl (omega (arith, c.if-count-ge-PROCESS_PLACES.false, c.count.ensures))
    c.store.ensures.changed c.store.ensures.still_bounded
