use Rattle.check_declarations.specs.Lowest.{Walking}
use Rattle.read_tables.specs.Decode.{tally_in, exec_declaration}
use Rattle.read_tables.specs.Program.{program_in}
use Rattle.calculus.specs.Declarations.{own_undefined}
use Rattle.check_declarations.proofs.passes.undefined_execs.Given as goal

abbrev pub invariant-loop-i : goal.invariant-loop-i
invariant-loop-i l = Walking (λ j. own_undefined (program_in l.text l.scratch) (exec_declaration l.text l.scratch j)) l.initial.l (tally_in l.scratch).execs l.i l.l
