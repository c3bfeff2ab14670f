use Rattle.std.proofs.Common.{◌≡◌, ◌+◌, true, drop}
use Rattle.call_lines.specs.CallLine.{seek}
use Rattle.call_lines.proofs.log.seek.Given as goal

abbrev pub invariant-loop-i : goal.invariant-loop-i
invariant-loop-i l = seek l.sought true l.log ≡ l.i + seek l.sought l.starts (drop l.i l.log)
