use Rattle.check_declarations.specs.Names.{name_of, Seeking}
use Rattle.check_declarations.proofs.names.seen_before.Given as goal

abbrev pub invariant-loop-k : goal.invariant-loop-k
invariant-loop-k l = Seeking (name_of l.text l.scratch l.names) (name_of l.text l.scratch l.names l.j).name l.j l.k
