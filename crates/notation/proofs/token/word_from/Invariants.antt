use Prim.Native.Nat.{◌-◌}
use Rattle.notation.proofs.Symbols.{Sought}
use Rattle.notation.proofs.token.word_from.Given as goal

abbrev pub invariant-loop-k : goal.invariant-loop-k
invariant-loop-k l = Sought l.w l.k

abbrev pub decreases-loop-k : goal.decreases-loop-k
decreases-loop-k l = 11 - l.k
