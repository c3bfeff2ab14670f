use Rattle.run_alone.specs.Raising.{caught, uncaught}
use Rattle.run_alone.specs.Changes.{halted}
use Rattle.run_alone.proofs.raising.act_as_raise.Goals as goal

pub set_halted-requires-clause-run_words_in_bounds : goal.set_halted-requires-clause-run_words_in_bounds
set_halted-requires-clause-run_words_in_bounds c = c.requires.run_of.wide

pub set_halted-requires-clause-bounded : goal.set_halted-requires-clause-bounded
set_halted-requires-clause-bounded c = c.requires.run_of.bounds

pub returns-then-p-eq-UNLINKED : goal.returns-then-p-eq-UNLINKED
returns-then-p-eq-UNLINKED c =
    let text = c.args.text.now in
    let scratch = c.args.scratch.now in
    let run = c.args.run.now in
    uncaught text scratch run _ _ c.args.place _ c.args.p.link c.if-p-eq-UNLINKED.true (halted text scratch run _ c.requires.run_of c.set_halted.ensures.changed c.set_halted.ensures.still_bounded)

pub returns : goal.returns
returns c = caught c.args.text.now c.args.scratch.now c.args.run.now _ _ c.args.place _ c.args.p.link c.if-p-eq-UNLINKED.false c.start_handler.ensures
