use Rattle.std.proofs.Common.{arith}
use Rattle.print_output.specs.Gathering.{due_none}
use Rattle.print_output.proofs.text.write_many.Goals as goal

pub returns-clause-waits : goal.returns-clause-waits
returns-clause-waits g c = record { is = (omega arith, due_none c.requires.due) }
