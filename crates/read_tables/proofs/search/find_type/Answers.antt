use Rattle.std.proofs.Common.{refl, arith}
use Rattle.read_tables.specs.Decode.{type_at}
use Rattle.read_tables.specs.Program.{named_type, types_in}
use Rattle.read_tables.specs.Search.{sought_by}
use Rattle.read_tables.proofs.search.find_type.Goals as goal

pub find_named-requires : goal.find_named-requires
find_named-requires c = (omega arith, omega (arith, c.requires.area, c.requires.within))

pub returns : goal.returns
unfolding named_type type_at
returns c = sought_by _ _ _ (λ k. refl) _ _ (types_in _ _) c.type_count.ensures c.find_named.ensures
