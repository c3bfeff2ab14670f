use native.Mathlib.Omega.{arith}
use mathlib.Core.Bool.{false}
use Rattle.run_alone.specs.Handlers.{unlinked_still, as_many}
use Rattle.run_alone.specs.Leaving.{leaves}
use Rattle.run_alone.proofs.leaving.leave.Goals as goal

pub change_handler-requires-clause-run_of : goal.change_handler-requires-clause-run_of
change_handler-requires-clause-run_of c = c.requires.run_of

pub change_handler-requires-clause-links_below : goal.change_handler-requires-clause-links_below
change_handler-requires-clause-links_below c = c.requires.stands_at.is.link

pub remove-requires-clause-run_words_in_bounds : goal.remove-requires-clause-run_words_in_bounds
remove-requires-clause-run_words_in_bounds c = c.change_handler.ensures.run.wide

pub remove-requires-clause-bounded : goal.remove-requires-clause-bounded
remove-requires-clause-bounded c = c.change_handler.ensures.run.bounds

pub remove-requires-clause-i_in_bounds : goal.remove-requires-clause-i_in_bounds
remove-requires-clause-i_in_bounds c = omega (arith, as_many c.args.text.now c.args.scratch.now c.args.run.now _ false c.args.p.link c.change_handler.ensures, c.requires.stands_at.below)

pub remove-requires-clause-unlinked : goal.remove-requires-clause-unlinked
remove-requires-clause-unlinked c = unlinked_still c.args.text.now c.args.scratch.now c.args.run.now _ false c.args.p.link c.change_handler.ensures c.args.place c.requires.unlinked

pub returns : goal.returns
returns c =
    leaves c.args.text.now c.args.scratch.now c.args.run.now _ _ c.args.place c.args.p c.change_handler.ensures
    c.remove.ensures.changed c.remove.ensures.still_bounded
