use Rattle.std.proofs.Common.{◌≡◌, ◌-◌, length}
use Rattle.call_lines.specs.CallLine.{most_scratch, most_run}
use Rattle.call_lines.specs.Lending.{Lendable}
use Rattle.calls.proofs.replay.print_calls.Given as goal

abbrev pub invariant-loop-at : goal.invariant-loop-at
invariant-loop-at g l = Lendable l.lent × (length l.scratch ≡ most_scratch) × (length l.run ≡ most_run) × (length l.out ≡ 66336)

abbrev pub decreases-loop-at : goal.decreases-loop-at
decreases-loop-at g l = length l.calls - l.at
