use mathlib.Core.Path.{sym, ◌∙◌, subst}
use native.Mathlib.Omega.{arith}
use Rattle.run_alone.specs.Run.{ProcessOf}
use Rattle.run_alone.specs.Parting.{parts}
use Rattle.run_alone.specs.Changes.{places_after, places_in, bounded_of}
use Rattle.run_alone.proofs.parting.part.Goals as goal

pub give_up-seen-requires-clause-run_of : goal.give_up-seen-requires-clause-run_of
give_up-seen-requires-clause-run_of c = c.requires.run_of

pub give_up-seen-requires-clause-side_lt_side_radix : goal.give_up-seen-requires-clause-side_lt_side_radix
give_up-seen-requires-clause-side_lt_side_radix c = c.requires.side_lt_side_radix

pub store-requires-clause-run_words_in_bounds : goal.store-requires-clause-run_words_in_bounds
store-requires-clause-run_words_in_bounds c =
    let give-up = c.give_up-seen in
    let text = c.args.text.now in
    let scratch = c.args.scratch.now in
    let run = c.args.run.now in
    let places-after' = places_after give-up.ensures.becomes ∙ places_in text scratch run in give-up.ensures.becomes.run.wide

pub store-requires-clause-bounded : goal.store-requires-clause-bounded
store-requires-clause-bounded c =
    let give-up = c.give_up-seen in
    let text = c.args.text.now in
    let scratch = c.args.scratch.now in
    let run = c.args.run.now in
    let places-after' = places_after give-up.ensures.becomes ∙ places_in text scratch run in give-up.ensures.becomes.run.bounds

pub store-requires-clause-i_in_bounds : goal.store-requires-clause-i_in_bounds
store-requires-clause-i_in_bounds c =
    let give-up = c.give_up-seen in
    let text = c.args.text.now in
    let scratch = c.args.scratch.now in
    let run = c.args.run.now in
    let places-after' = places_after give-up.ensures.becomes ∙ places_in text scratch run in omega (arith, places-after', c.requires.place_in_bounds)

pub store-requires-clause-bounded_process : goal.store-requires-clause-bounded_process
store-requires-clause-bounded_process c =
    let give-up = c.give_up-seen in
    let text = c.args.text.now in
    let scratch = c.args.scratch.now in
    let run = c.args.run.now in
    let places-after' = places_after give-up.ensures.becomes ∙ places_in text scratch run in bounded_of text scratch (subst (λ n. ProcessOf text scratch n c.args.p) (sym places-after') c.requires.process_of)

pub returns : goal.returns
returns c =
    let give-up = c.give_up-seen in
    let text = c.args.text.now in
    let scratch = c.args.scratch.now in
    let run = c.args.run.now in
    parts text scratch run _ _ c.args.place c.args.p c.args.e _ give-up.ensures
    (subst (λ n. ProcessOf text scratch n c.args.p) (sym (places_after give-up.ensures.becomes ∙ places_in text scratch run)) c.requires.process_of) c.store.ensures.changed
    c.store.ensures.still_bounded
