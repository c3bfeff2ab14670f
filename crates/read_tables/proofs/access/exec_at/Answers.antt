use Rattle.read_tables.specs.Access.{exec_of_lem}
use Rattle.read_tables.specs.Decode.{exec_at}
use Rattle.read_tables.proofs.access.exec_at.Goals as goal

pub returns : goal.returns
unfolding exec_at
returns c = exec_of_lem _ _ _ c.word.ensures.value
