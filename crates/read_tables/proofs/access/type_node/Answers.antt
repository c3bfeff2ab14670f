use mathlib.Core.Path.{ap}
use Rattle.read_tables.specs.Access.{node_of}
use Rattle.read_tables.specs.Decode.{node_at, type_node_of}
use Rattle.read_tables.proofs.access.type_node.Goals as goal

pub returns : goal.returns
unfolding node_at type_node_of
returns c = node_of _ _ _ (ap type_node_of c.word-x.ensures.value)
