use Rattle.run_alone.specs.Cancelling.{cancels, cancels_nothing}
use Rattle.run_alone.specs.Parting.{end_found_lem}
use Rattle.run_alone.specs.Changes.{runs_on}
use Rattle.run_words.specs.Values.{running_on}
use mathlib.Core.Path.{refl}
use Rattle.run_alone.proofs.cancelling.cancel.Goals as goal

pub returns-in_default : goal.returns-in_default
returns-in_default c =
    cancels_nothing c.args.text.now c.args.scratch.now c.args.run.now c.args.place c.args.p c.args.c c.args.pointer c.find_end.ensures
    c.in_default.is

pub part-requires-clause-process_of : goal.part-requires-clause-process_of
part-requires-clause-process_of c =
    runs_on c.requires.run_of.tables (running_on c.args.pointer c.drop_end-held.result c.args.p) refl c.requires.stands_at.is.link c.requires.process_in
    (c.drop_end-held.ensures.fits c.args.scratch.now c.requires.stands_at.is.held)

pub part-requires-clause-side_lt_side_radix : goal.part-requires-clause-side_lt_side_radix
part-requires-clause-side_lt_side_radix c =
    (end_found_lem {w = c.args.scratch.now} c.find_end.ensures
    c.in-Some.is c.requires.stands_at.is.held).1

pub returns : goal.returns
returns c =
    cancels c.args.text.now c.args.scratch.now c.args.run.now _ c.args.place c.args.p c.args.c c.args.pointer
    c.find_end.ensures c.in-Some.is c.drop_end-held.ensures c.part.ensures
