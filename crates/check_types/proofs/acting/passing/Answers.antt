use native.Mathlib.Omega.{arith}
use Rattle.check_types.specs.Acting.{passes_at, passes_nothing}
use Rattle.check_types.proofs.acting.passing.Goals as goal

pub returns-in-2 : goal.returns-in-2
returns-in-2 c = passes_at _ _ _ c.type_node-n.ensures 2 c.in-2.is (omega arith) (omega arith)

pub returns-in-3 : goal.returns-in-3
returns-in-3 c = passes_at _ _ _ c.type_node-n.ensures 3 c.in-3.is (omega arith) (omega arith)

pub returns-in-4 : goal.returns-in-4
returns-in-4 c = passes_at _ _ _ c.type_node-n.ensures 4 c.in-4.is (omega arith) (omega arith)

pub returns-in_default : goal.returns-in_default
returns-in_default c = passes_nothing _ _ _ c.type_node-n.ensures (omega arith) (omega arith) (omega arith)
