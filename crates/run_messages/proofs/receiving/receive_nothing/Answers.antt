use mathlib.Core.Path.{sym}
use Rattle.run_messages.specs.Receiving.{receives_nothing}
use Rattle.run_alone.specs.Parting.{folds}
use Rattle.run_messages.proofs.receiving.receive_nothing.Goals as goal

pub start_handler-requires-clause-process_of : goal.start_handler-requires-clause-process_of
start_handler-requires-clause-process_of c =
    let drop_end = c.drop_end-held in
    let there = c.requires.stands_at in folds c.args.text.now c.args.scratch.now c.args.p drop_end.result there.is (drop_end.ensures.fits c.args.scratch.now there.is.held)

pub returns : goal.returns
returns c =
    receives_nothing c.args.text.now c.args.scratch.now c.args.run.now c.args.place c.args.p c.args.c c.args.e (sym c.requires.e_value)
    c.drop_end-held.ensures c.start_handler.ensures
