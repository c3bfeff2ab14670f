use native.Mathlib.Omega.{arith}
use Rattle.check_types.specs.Labels.{both_beyond}
use Rattle.check_types.proofs.acting.past.Goals as goal

pub returns-else-at-text : goal.returns-else-at-text
returns-else-at-text c = both_beyond _ _ _ (omega arith) (omega arith)
