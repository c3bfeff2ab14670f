use Rattle.check_declarations.specs.Lowest.{Walking}
use Rattle.read_tables.specs.Decode.{tally_in, type_declaration}
use Rattle.read_tables.specs.Program.{program_in}
use Rattle.check_declarations.specs.DeclarationFaults.{declaration_faults}
use Rattle.check_declarations.proofs.passes.types_faults.Given as goal

abbrev pub invariant-loop-i : goal.invariant-loop-i
invariant-loop-i l = Walking (λ j. declaration_faults l.pass (program_in l.text l.scratch) (type_declaration l.text l.scratch j)) l.initial.l (tally_in l.scratch).types l.i l.l
