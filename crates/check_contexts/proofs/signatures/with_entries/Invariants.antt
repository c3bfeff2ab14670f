use Rattle.check_contexts.specs.Signatures.{WithEntries}
use Rattle.check_contexts.proofs.signatures.with_entries.Given as goal

abbrev pub invariant-loop-k : goal.invariant-loop-k
invariant-loop-k l = WithEntries l.scratch l.initial.r l.side l.first l.k l.r
