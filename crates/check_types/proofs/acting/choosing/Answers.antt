use native.Mathlib.Omega.{arith}
use Rattle.check_types.specs.Acting.{chooses_at, chooses_nothing}
use Rattle.check_types.proofs.acting.choosing.Goals as goal

pub returns-in-5 : goal.returns-in-5
returns-in-5 c = chooses_at _ _ _ c.type_node-n.ensures 5 c.in-5.is (omega arith)

pub returns-in-6 : goal.returns-in-6
returns-in-6 c = chooses_at _ _ _ c.type_node-n.ensures 6 c.in-6.is (omega arith)

pub returns-in_default : goal.returns-in_default
returns-in_default c = chooses_nothing _ _ _ c.type_node-n.ensures (omega arith) (omega arith)
