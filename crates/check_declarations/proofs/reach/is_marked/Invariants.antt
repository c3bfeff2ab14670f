use Rattle.notation.specs.Token.{name_at}
use Rattle.read_tables.specs.Decode.{tally_in}
use Rattle.check_declarations.specs.Reach.{is_marked, Testing}
use Rattle.check_declarations.proofs.reach.is_marked.Given as goal

abbrev pub invariant-loop-i : goal.invariant-loop-i
invariant-loop-i l = Testing (is_marked l.text l.scratch l.marks (name_at l.text l.at)) (tally_in l.scratch).types l.i
