use Rattle.read_tables.specs.Access.{branch_of_lem}
use Rattle.read_tables.specs.Decode.{branch_at}
use Rattle.read_tables.proofs.access.branch.Goals as goal

pub returns : goal.returns
unfolding branch_at
returns c = branch_of_lem _ _ _ c.pair.ensures
