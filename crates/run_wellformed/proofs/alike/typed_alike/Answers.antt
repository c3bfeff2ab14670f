use Rattle.run_wellformed.specs.Alike.{alike_so}
use Rattle.run_wellformed.proofs.alike.typed_alike.Goals as goal

pub returns-then-p-q-3 : goal.returns-then-p-q-3
returns-then-p-q-3 c = λ z. alike_so _ _ c.if-p-q-3.true.0 c.if-p-q-3.true.1 (c.held_match.ensures z)
