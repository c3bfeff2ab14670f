use mathlib.Core.Path.{refl}
use Rattle.run_words.specs.Values.{running_on}
use Rattle.run_alone.specs.Raising.{raises}
use Rattle.run_alone.specs.Changes.{runs_on}
use Rattle.run_alone.proofs.raising.raise.Goals as goal

pub act_as_raise-requires-clause-run_of : goal.act_as_raise-requires-clause-run_of
act_as_raise-requires-clause-run_of c =
    c.requires.run_of

pub act_as_raise-requires-clause-place_in_bounds : goal.act_as_raise-requires-clause-place_in_bounds
act_as_raise-requires-clause-place_in_bounds c =
    let there = c.requires.stands_at in there.below

pub act_as_raise-requires-clause-process_of : goal.act_as_raise-requires-clause-process_of
act_as_raise-requires-clause-process_of c =
    let p = c.args.p in
    let there = c.requires.stands_at in runs_on c.requires.run_of.tables (running_on c.args.pointer p.held p) refl there.is.link c.requires.process_in there.is.held

pub returns : goal.returns
returns c = raises c.args.text.now c.args.scratch.now c.args.run.now _ c.args.place c.args.p c.args.pointer c.act_as_raise.ensures
