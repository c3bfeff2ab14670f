use Rattle.std.proofs.Common.{◌≡◌, drop}
use Rattle.call_lines.specs.CallLine.{number_from}
use Rattle.call_lines.proofs.numbers.number_from.Given as goal

abbrev pub invariant-loop-b : goal.invariant-loop-b
invariant-loop-b l = number_from 0 l.digits ≡ number_from l.n (drop l.b-index l.digits)
