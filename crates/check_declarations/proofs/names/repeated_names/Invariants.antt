use Rattle.check_declarations.specs.Names.{name_of, repeat_at}
use Rattle.check_declarations.specs.Lowest.{Walking}
use Rattle.check_declarations.proofs.names.repeated_names.Given as goal

abbrev pub invariant-loop-j : goal.invariant-loop-j
invariant-loop-j l = Walking (repeat_at (name_of l.text l.scratch l.names)) l.initial.l l.count l.j l.l
