use Rattle.notation.proofs.Names.{name_within}
use Rattle.interpreter.specs.Naming.{part_named}
use Rattle.interpreter.proofs.entries.exec_name.Goals as goal

pub returns-in-Ok-clause-names : goal.returns-in-Ok-clause-names
returns-in-Ok-clause-names c = part_named c.in-Ok.ensures c.name_of.ensures

pub returns-in-Ok-clause-result_in_bounds : goal.returns-in-Ok-clause-result_in_bounds
returns-in-Ok-clause-result_in_bounds c = name_within _ _ c.name_of.ensures

pub returns-in-Err-clause-names : goal.returns-in-Err-clause-names
returns-in-Err-clause-names c = c.in-Err.ensures.names
