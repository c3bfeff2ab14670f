use Rattle.std.proofs.Common.{rules, arith}
use Rattle.print_output.specs.Gathering.{due_next, taken_next, taken_gone}
use Rattle.print_output.proofs.text.print_rest.Goals as goal

pub write_many-requires-clause-due : goal.write_many-requires-clause-due
write_many-requires-clause-due g c =
    due_next {r = c.next_piece-p.result} _ _ c.loop-run.waiting (omega (arith, c.loop-run.invariant.2, c.loop-run.invariant.3)) c.loop-run.invariant.4 c.next_piece-p.ensures

pub loop-run-preserved : goal.loop-run-preserved
loop-run-preserved g c =
    let e = c.in_ok-waiting.ensures in
    let next = taken_next {r = c.next_piece-p.result} _ _ c.loop-run.waiting (omega (arith, c.loop-run.invariant.2, c.loop-run.invariant.3)) c.loop-run.invariant.5 c.next_piece-p.ensures in
    (c.next_piece-p.ensures.going, search rules, search rules, e.waits.is.0, e.waits.is.1, taken_gone next e.gone)

-- (the check finds it, and the edit of what waits at the end gives another)
pub write_due-requires-clause-due : goal.write_due-requires-clause-due
write_due-requires-clause-due g c = c.loop-run.invariant.4
