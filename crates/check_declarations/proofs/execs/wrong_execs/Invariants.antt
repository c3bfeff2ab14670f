use Rattle.read_tables.specs.Decode.{tally_in}
use Rattle.read_tables.specs.Program.{program_in, exec_in}
use Rattle.check_declarations.specs.Lowest.{Walking, least}
use Rattle.check_declarations.specs.Execs.{breaking_at}
use Rattle.check_declarations.proofs.execs.wrong_execs.Given as goal

abbrev pub invariant-loop-i : goal.invariant-loop-i
invariant-loop-i l = Walking (breaking_at (program_in l.text l.scratch) (exec_in l.text l.scratch)) least (tally_in l.scratch).execs l.i l.l
