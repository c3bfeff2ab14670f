use Prim.Native.Nat.{◌-◌}
use lib.ListN.{length}
use Rattle.notation.specs.Token.{name_at}
use Rattle.check_contexts.specs.Walks.{Walking, Unmet}
use Rattle.check_contexts.proofs.names.in_list.Given as goal

abbrev pub invariant-loop-there : goal.invariant-loop-there
invariant-loop-there l = Walking l.text l.from l.i (Unmet (name_at l.text l.at))

abbrev pub decreases-loop-there : goal.decreases-loop-there
decreases-loop-there l = length l.text - l.i
