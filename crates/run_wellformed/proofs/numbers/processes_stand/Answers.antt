use Rattle.run_words.proofs.Decisions.{so_far, refused_at_lem}
use Rattle.run_wellformed.specs.OfText.{ProcessOf}
use Rattle.run_words.specs.Raw.{raw_in}
use Rattle.run_wellformed.proofs.numbers.processes_stand.Goals as goal

pub returns-then-not-process_stands : goal.returns-then-not-process_stands
returns-then-not-process_stands c =
    refused_at_lem (ProcessOf c.args.scratch.now) (raw_in c.args.run.now).processes c.loop-i.i c.load.ensures.i_value
    (c.process_stands.ensures.no c.if-not-process_stands.true)

pub loop-i-preserved : goal.loop-i-preserved
loop-i-preserved c =
    let loop = c.loop-i in
    so_far (ProcessOf c.args.scratch.now) (raw_in c.args.run.now).processes loop.i loop.invariant c.load.ensures.i_value
    (c.process_stands.ensures.yes c.if-not-process_stands.false)
