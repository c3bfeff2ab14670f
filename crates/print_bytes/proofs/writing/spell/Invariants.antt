use Rattle.print_bytes.specs.Spelling.{Spelling}
use Rattle.print_bytes.proofs.writing.spell.Given as goal

abbrev pub invariant-loop-first : goal.invariant-loop-first
invariant-loop-first l = Spelling l.n l.digits l.first l.left
