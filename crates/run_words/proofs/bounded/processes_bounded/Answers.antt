use native.Mathlib.Omega.{arith}
use lib.ListN.{length}
use Rattle.run_words.specs.Raw.{raw_in, BoundedProcess}
use Rattle.run_words.specs.SliceLaws.{process_at_lem}
use Rattle.run_words.proofs.Decisions.{so_far, refused_at_lem}
use Rattle.run_words.proofs.bounded.processes_bounded.Goals as goal

pub returns-then-not-process_bounded : goal.returns-then-not-process_bounded
returns-then-not-process_bounded c =
    let ws = c.args.run.now in
    let here = rw c.count-n.ensures at c.process_bounded.ensures in
    refused_at_lem (BoundedProcess (length (raw_in ws).processes)) (raw_in ws).processes c.loop-i.i (process_at_lem ws c.loop-i.i (omega arith))
    (here.no c.if-not-process_bounded.true)

pub loop-i-preserved : goal.loop-i-preserved
loop-i-preserved c =
    let ws = c.args.run.now in
    let here = rw c.count-n.ensures at c.process_bounded.ensures in
    so_far (BoundedProcess (length (raw_in ws).processes)) (raw_in ws).processes c.loop-i.i c.loop-i.invariant (process_at_lem ws c.loop-i.i (omega arith))
    (here.yes c.if-not-process_bounded.false)
