use Rattle.read_tables.specs.Access.{entry_of}
use Rattle.read_tables.specs.Decode.{entry_at}
use Rattle.read_tables.proofs.access.entry.Goals as goal

pub returns : goal.returns
unfolding entry_at
returns c = entry_of _ _ _ c.pair.ensures
