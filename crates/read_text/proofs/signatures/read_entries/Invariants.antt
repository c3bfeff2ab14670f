use Prim.Native.Nat.{◌-◌}
use lib.ListN.{length}
use Rattle.read_text.proofs.Turning.{Through}
use Rattle.read_text.proofs.SignaturePaths.{Entries}
use Rattle.read_text.proofs.signatures.read_entries.Given as goal

abbrev pub invariant-loop-i : goal.invariant-loop-i
invariant-loop-i l = Through (Entries l.text l.close) l.text l.initial.scratch l.initial.c l.initial.k l.scratch l.c l.k

abbrev pub decreases-loop-i : goal.decreases-loop-i
decreases-loop-i l = length l.text - l.c.at
