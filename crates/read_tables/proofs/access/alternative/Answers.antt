use Rattle.read_tables.specs.Access.{alternative_of}
use Rattle.read_tables.specs.Decode.{alternative_at}
use Rattle.read_tables.proofs.access.alternative.Goals as goal

pub returns : goal.returns
unfolding alternative_at
returns c = alternative_of _ _ _ c.pair.ensures
