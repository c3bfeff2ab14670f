use Rattle.std.proofs.Common.{◌≡◌, ◌+◌, drop}
use Rattle.call_lines.specs.CallLine.{before}
use Rattle.call_lines.proofs.words.length_before.Given as goal

abbrev pub invariant-loop-i : goal.invariant-loop-i
invariant-loop-i l = before l.word l.line ≡ l.i + before l.word (drop l.i l.line)
