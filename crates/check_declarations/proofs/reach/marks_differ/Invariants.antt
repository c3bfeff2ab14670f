use Rattle.check_declarations.specs.Reach.{differs_at, Testing}
use Rattle.check_declarations.proofs.reach.marks_differ.Given as goal

abbrev pub invariant-loop-i : goal.invariant-loop-i
invariant-loop-i l = Testing (differs_at l.a l.b) l.n l.i
