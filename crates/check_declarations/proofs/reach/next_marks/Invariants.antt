use Rattle.check_declarations.specs.Reach.{marked, Marking}
use Rattle.check_declarations.proofs.reach.next_marks.Given as goal

abbrev pub invariant-loop-i : goal.invariant-loop-i
invariant-loop-i l = Marking l.text l.scratch (marked l.text l.scratch l.marks) l.next l.i
