use Rattle.check_contexts.specs.Halves.{Picking}
use Rattle.check_contexts.proofs.halves.keep.Given as goal

abbrev pub invariant-loop-k : goal.invariant-loop-k
invariant-loop-k l = Picking l.h l.m l.want l.r l.k
