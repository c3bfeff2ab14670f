use native.Mathlib.Omega.{arith}
use Rattle.run_alone.proofs.calling.past_entries.Goals as goal

pub overflow_add-result : goal.overflow_add-result
overflow_add-result c = omega (arith, c.requires.1 c.if-n-eq0.false, c.requires.0)
