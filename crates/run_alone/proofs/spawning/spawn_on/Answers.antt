use native.Mathlib.Omega.{arith}
use mathlib.Core.Bool.{true, false}
use Rattle.run_alone.specs.Changes.{bounded_of}
use Rattle.run_alone.specs.Spawning.{half_asked, halved, maker_of, maker_stays, as_before, spawned_of, spawns}
use Rattle.run_alone.proofs.spawning.spawn_on.Goals as goal

pub half_takes-taken-requires : goal.half_takes-taken-requires
half_takes-taken-requires c = (c.requires.run_of.tables, c.requires.spawn_in.first, c.requires.stands_at.is.held.many)

pub spawn_half-ours-requires : goal.spawn_half-ours-requires
spawn_half-ours-requires c = let both = half_asked _ _ c.requires.spawn_in c.requires.stands_at.is.held c.half_takes-taken.ensures c.requires.run_of.tables c.requires.run_len_bound.1 true in record { count_le_held_limit = both.0; name_lt_text_limit = both.1 }

pub spawn_half-theirs-requires : goal.spawn_half-theirs-requires
spawn_half-theirs-requires c = let both = half_asked _ _ c.requires.spawn_in c.requires.stands_at.is.held c.half_takes-taken.ensures c.requires.run_of.tables c.requires.run_len_bound.1 false in record { count_le_held_limit = both.0; name_lt_text_limit = both.1 }

pub store-requires-clause-run_words_in_bounds : goal.store-requires-clause-run_words_in_bounds
store-requires-clause-run_words_in_bounds c =
    c.requires.run_of.wide

pub store-requires-clause-bounded : goal.store-requires-clause-bounded
store-requires-clause-bounded c =
    c.requires.run_of.bounds

pub store-requires-clause-i_in_bounds : goal.store-requires-clause-i_in_bounds
store-requires-clause-i_in_bounds c =
    c.requires.stands_at.below

pub store-requires-clause-bounded_process : goal.store-requires-clause-bounded_process
store-requires-clause-bounded_process c =
    let text = c.args.text.now in
    let scratch = c.args.scratch.now in
    let term = c.requires.spawn_in in
    let h = halved text scratch term c.requires.stands_at.is.held c.half_takes-taken.ensures c.spawn_half-ours.ensures c.spawn_half-theirs.ensures in bounded_of text scratch
    (maker_of text scratch c.args.run.now c.requires.run_of c.args.place c.args.p c.requires.stands_at c.args.m term c.args.channel _ h.theirs_fit)

pub insert-requires-clause-run_words_in_bounds : goal.insert-requires-clause-run_words_in_bounds
insert-requires-clause-run_words_in_bounds c =
    let text = c.args.text.now in
    let scratch = c.args.scratch.now in
    let run = c.args.run.now in
    let place = c.args.place in
    let p = c.args.p in
    let m = c.args.m in
    let term = c.requires.spawn_in in
    let channel = c.args.channel in
    let h = halved text scratch term c.requires.stands_at.is.held c.half_takes-taken.ensures c.spawn_half-ours.ensures c.spawn_half-theirs.ensures in
    let b = maker_stays text scratch run c.requires.run_of place p c.requires.stands_at m term channel _ _ _ h c.store.ensures.changed c.store.ensures.still_bounded in b.run.wide

pub insert-requires-clause-bounded : goal.insert-requires-clause-bounded
insert-requires-clause-bounded c =
    c.store.ensures.still_bounded

pub insert-requires-clause-i_in_bounds : goal.insert-requires-clause-i_in_bounds
insert-requires-clause-i_in_bounds c =
    let text = c.args.text.now in
    let scratch = c.args.scratch.now in
    let run = c.args.run.now in
    let place = c.args.place in
    let p = c.args.p in
    let m = c.args.m in
    let term = c.requires.spawn_in in
    let channel = c.args.channel in
    let h = halved text scratch term c.requires.stands_at.is.held c.half_takes-taken.ensures c.spawn_half-ours.ensures c.spawn_half-theirs.ensures in
    let a = as_before text scratch run c.requires.run_of place p c.requires.stands_at m term channel _ _ _ h c.store.ensures.changed c.store.ensures.still_bounded in
    (omega (arith, a, c.requires.stands_at.below), omega (arith, a, c.requires.run_len_bound.0))

pub insert-requires-clause-bounded_process : goal.insert-requires-clause-bounded_process
insert-requires-clause-bounded_process c =
    let text = c.args.text.now in
    let scratch = c.args.scratch.now in
    let run = c.args.run.now in
    let place = c.args.place in
    let p = c.args.p in
    let m = c.args.m in
    let term = c.requires.spawn_in in
    let channel = c.args.channel in
    let h = halved text scratch term c.requires.stands_at.is.held c.half_takes-taken.ensures c.spawn_half-ours.ensures c.spawn_half-theirs.ensures in
    bounded_of text scratch (spawned_of text scratch run c.requires.run_of place p c.requires.stands_at m term channel _ _ _ h c.store.ensures.changed c.store.ensures.still_bounded)

pub returns : goal.returns
returns c =
    let text = c.args.text.now in
    let scratch = c.args.scratch.now in
    let term = c.requires.spawn_in in
    let h = halved text scratch term c.requires.stands_at.is.held c.half_takes-taken.ensures c.spawn_half-ours.ensures c.spawn_half-theirs.ensures in
    spawns text scratch c.args.run.now c.requires.run_of c.args.place c.args.p c.requires.stands_at c.args.m term c.args.channel _ _ _ h c.store.ensures.changed
    c.store.ensures.still_bounded _ c.insert.ensures.changed c.insert.ensures.still_bounded
