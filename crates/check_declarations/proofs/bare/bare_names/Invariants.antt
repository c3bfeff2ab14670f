use Rattle.calculus.specs.Declarations.{own_bare_name}
use Rattle.read_tables.specs.Decode.{tally_in, type_declaration}
use Rattle.check_declarations.specs.Lowest.{Walking, least}
use Rattle.check_declarations.proofs.bare.bare_names.Given as goal

abbrev pub invariant-loop-i : goal.invariant-loop-i
invariant-loop-i l = Walking (λ j. own_bare_name (type_declaration l.text l.scratch j)) least (tally_in l.scratch).types l.i l.low
