use Rattle.std.proofs.Common.{◌+◌}
use Rattle.notation.specs.Token.{name_at}
use Rattle.check_types.specs.Labels.{pair_in, Seeking}
use Rattle.check_types.proofs.acting.label_number.Given as goal

abbrev pub invariant-loop-k : goal.invariant-loop-k
invariant-loop-k l = Seeking l.text (pair_in l.scratch l.table) (name_at l.text (l.at + 1)) l.e l.n l.k
