use Rattle.std.proofs.Common.{refl, arith}
use Rattle.read_tables.specs.Decode.{process_at, process_entry_of}
use Rattle.read_tables.specs.Program.{named_process, processes_in}
use Rattle.read_tables.specs.Search.{sought_by}
use Rattle.read_tables.proofs.search.find_process.Goals as goal

pub find_named-requires : goal.find_named-requires
find_named-requires c = (omega arith, omega (arith, c.requires.area, c.requires.within))

pub returns : goal.returns
unfolding named_process process_at process_entry_of
returns c = sought_by _ _ _ (λ k. refl) _ _ (processes_in _ _) c.process_count.ensures c.find_named.ensures
