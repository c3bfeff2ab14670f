use Rattle.notation.specs.Token.{name_at}
use Rattle.read_tables.specs.Search.{named_from, Seeking}
use Rattle.read_tables.proofs.search.find_named.Given as goal

abbrev pub invariant-loop-i : goal.invariant-loop-i
invariant-loop-i l = Seeking (name_at l.text l.at) (named_from l.text l.scratch l.table l.size) l.n l.i
