use Rattle.notation.proofs.Names.{AlikeFrom}
use Rattle.notation.proofs.token.has_name.Given as goal

abbrev pub invariant-loop-k : goal.invariant-loop-k
invariant-loop-k l = AlikeFrom l.text l.at l.there l.n l.k

abbrev pub decreases-loop-k : goal.decreases-loop-k
decreases-loop-k l = l.k
