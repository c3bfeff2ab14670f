use mathlib.Core.Path.{sym, subst}
use native.Mathlib.Omega.{arith}
use Rattle.run_alone.specs.Forwarding.{far_place, far_position, far_holder, far_moved_lem, far_held, regained, regained_of, mid_becomes, mid_many, moves_far}
use Rattle.run_alone.specs.Changes.{loaded, bounded_of}
use Rattle.run_words.specs.ListLaws.{all_at}
use Rattle.run_words.specs.Values.{held_in}
use Rattle.check_contexts.specs.Held.{EndIn}
use Rattle.run_alone.specs.Run.{ProcessOf}
use Rattle.run_alone.proofs.forwarding.move_far_end.Goals as goal

pub load-r-requires-clause-run_words_in_bounds : goal.load-r-requires-clause-run_words_in_bounds
load-r-requires-clause-run_words_in_bounds c = c.requires.run_of.wide

pub load-r-requires-clause-bounded : goal.load-r-requires-clause-bounded
load-r-requires-clause-bounded c = c.requires.run_of.bounds

pub load-r-requires-clause-i_in_bounds : goal.load-r-requires-clause-i_in_bounds
load-r-requires-clause-i_in_bounds c = far_place c.args.text.now c.args.scratch.now c.args.run.now c.args.e c.args.j c.args.k c.requires.e_value

pub end_at-x-requires : goal.end_at-x-requires
end_at-x-requires c = (
  c.load-r.ensures.count_le_held_limit,
  (far_position c.args.text.now c.args.scratch.now c.args.run.now c.args.e c.args.j c.args.k c.requires.e_value
      c.load-r.result c.load-r.ensures.i_value),
)

pub replaced-held-requires-clause-count_le_held_limit : goal.replaced-held-requires-clause-count_le_held_limit
replaced-held-requires-clause-count_le_held_limit c =
    let text = c.args.text.now in
    let scratch = c.args.scratch.now in
    let run = c.args.run.now in
    (c.load-r.ensures.count_le_held_limit, (far_position text scratch run c.args.e c.args.j c.args.k c.requires.e_value c.load-r.result c.load-r.ensures.i_value))

pub replaced-held-requires-clause-bounded_end : goal.replaced-held-requires-clause-bounded_end
replaced-held-requires-clause-bounded_end c =
    let text = c.args.text.now in
    let scratch = c.args.scratch.now in
    let o = all_at (EndIn text scratch) (held_in c.load-r.result.held) c.args.k
    (loaded _ _ c.load-r.result c.requires.run_of (c.load-r.ensures.i_value, (c.load-r.ensures.bounded_process, c.load-r.ensures.count_le_held_limit))).is.held.each c.end_at-x.ensures.k_value in (record { name = o.bounds.name; node = o.bounds.node; channel = c.requires.channel_lt_channel_places }, c.end_at-x.ensures.side_lt_side_radix.0)

pub store-requires-clause-run_words_in_bounds : goal.store-requires-clause-run_words_in_bounds
store-requires-clause-run_words_in_bounds c = c.requires.run_of.wide

pub store-requires-clause-bounded : goal.store-requires-clause-bounded
store-requires-clause-bounded c = c.requires.run_of.bounds

pub store-requires-clause-i_in_bounds : goal.store-requires-clause-i_in_bounds
store-requires-clause-i_in_bounds c = c.requires.place_in_bounds

pub store-requires-clause-bounded_process : goal.store-requires-clause-bounded_process
store-requires-clause-bounded_process c = bounded_of c.args.text.now c.args.scratch.now c.requires.process_of

pub store-requires-2-clause-run_words_in_bounds : goal.store-requires-2-clause-run_words_in_bounds
store-requires-2-clause-run_words_in_bounds c =
    let text = c.args.text.now in
    let scratch = c.args.scratch.now in
    let run = c.args.run.now in
    let e = c.args.e in
    let j = c.args.j in
    let k = c.args.k in
    let place = c.args.place in
    let q = c.args.q in
    let d = c.args.d in
    (mid_becomes text scratch run e j k c.requires.e_value c.requires.run_of place q c.load-r.result c.end_at-x.result d c.replaced-held.result _ c.requires.process_of c.store.ensures.changed
    c.store.ensures.still_bounded).run.wide

pub store-requires-2-clause-bounded : goal.store-requires-2-clause-bounded
store-requires-2-clause-bounded c =
    c.store.ensures.still_bounded

pub store-requires-2-clause-i_in_bounds : goal.store-requires-2-clause-i_in_bounds
store-requires-2-clause-i_in_bounds c =
    let text = c.args.text.now in
    let scratch = c.args.scratch.now in
    let run = c.args.run.now in
    let e = c.args.e in
    let j = c.args.j in
    let k = c.args.k in
    let place = c.args.place in
    let q = c.args.q in
    let d = c.args.d in
    omega (
      arith,
      mid_many text scratch run e j k c.requires.e_value c.requires.run_of place q c.load-r.result c.end_at-x.result d
          c.replaced-held.result _ c.requires.process_of c.store.ensures.changed c.store.ensures.still_bounded,
      far_place text scratch run e j k c.requires.e_value,
    )

pub store-requires-2-clause-bounded_process : goal.store-requires-2-clause-bounded_process
store-requires-2-clause-bounded_process c =
    let text = c.args.text.now in
    let scratch = c.args.scratch.now in
    let run = c.args.run.now in
    let e = c.args.e in
    let j = c.args.j in
    let k = c.args.k in
    let place = c.args.place in
    let q = c.args.q in
    let d = c.args.d in
    let stands = loaded _ _ c.load-r.result c.requires.run_of (c.load-r.ensures.i_value, (c.load-r.ensures.bounded_process, c.load-r.ensures.count_le_held_limit)) in bounded_of text scratch (subst
    (λ n. ProcessOf text scratch n (regained text scratch run e j k c.requires.e_value c.requires.run_of place q c.load-r.result c.end_at-x.result d c.replaced-held.result))
    (sym (mid_many text scratch run e j k c.requires.e_value c.requires.run_of place q c.load-r.result c.end_at-x.result d c.replaced-held.result _ c.requires.process_of c.store.ensures.changed
    c.store.ensures.still_bounded)) (regained_of text scratch run e j k c.requires.e_value c.requires.run_of place q c.load-r.result c.end_at-x.result d c.replaced-held.result stands (far_held text scratch
    run e j k c.requires.e_value c.load-r.result c.load-r.ensures.i_value c.end_at-x.result c.end_at-x.ensures.k_value d.channel _ c.replaced-held.ensures.result_value c.replaced-held.ensures.count_value stands.is.held
    c.requires.channel_lt_channel_places)))

pub returns : goal.returns
returns c =
    let text = c.args.text.now in
    let scratch = c.args.scratch.now in
    let run = c.args.run.now in
    let e = c.args.e in
    let j = c.args.j in
    let k = c.args.k in
    let place = c.args.place in
    let q = c.args.q in
    let d = c.args.d in
    let stands = loaded _ _ c.load-r.result c.requires.run_of (c.load-r.ensures.i_value, (c.load-r.ensures.bounded_process, c.load-r.ensures.count_le_held_limit)) in
    moves_far text scratch run e j k c.requires.e_value c.requires.run_of place q c.load-r.result c.end_at-x.result d c.replaced-held.result _ c.requires.process_of c.store.ensures.changed
    c.store.ensures.still_bounded _ (subst (λ n. ProcessOf text scratch n (regained text scratch run e j k c.requires.e_value c.requires.run_of place q c.load-r.result c.end_at-x.result d
    c.replaced-held.result)) (sym (mid_many text scratch run e j k c.requires.e_value c.requires.run_of place q c.load-r.result c.end_at-x.result d c.replaced-held.result _ c.requires.process_of
    c.store.ensures.changed c.store.ensures.still_bounded)) (regained_of text scratch run e j k c.requires.e_value c.requires.run_of place q c.load-r.result c.end_at-x.result d c.replaced-held.result stands
    (far_held text scratch run e j k c.requires.e_value c.load-r.result c.load-r.ensures.i_value c.end_at-x.result c.end_at-x.ensures.k_value d.channel _ c.replaced-held.ensures.result_value c.replaced-held.ensures.count_value
    stands.is.held c.requires.channel_lt_channel_places))) (far_moved_lem text scratch run e j k c.requires.e_value c.load-r.result c.load-r.ensures.i_value c.end_at-x.result c.end_at-x.ensures.k_value d.channel
    _ c.replaced-held.ensures.result_value) (far_holder text scratch run e j k c.requires.e_value c.load-r.result c.load-r.ensures.i_value c.end_at-x.result c.end_at-x.ensures.k_value)
    c.store-2.ensures.changed c.store-2.ensures.still_bounded
