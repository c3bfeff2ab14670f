-- What was read so far stands within the buffer.
use Rattle.std.proofs.Common.{◌≤◌, length}
use Rattle.program_input.proofs.reading.read_full.Given as goal

abbrev pub invariant-loop : goal.invariant-loop
invariant-loop g l = l.at ≤ length l.buf
