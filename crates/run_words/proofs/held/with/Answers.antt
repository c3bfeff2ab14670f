use native.Mathlib.Omega.{arith}
use Prim.Native.Nat.{◌+◌}
use mathlib.Core.Path.{refl}
use Rattle.run_words.specs.Values.{held_in}
use Rattle.run_words.proofs.Ends.{ends_append}
use Rattle.run_words.proofs.held.with.Goals as goal

pub returns-clause-result_value : goal.returns-clause-result_value
unfolding held_in
returns-clause-result_value c = let a = c.args in ends_append _ _ a.h.count a.h.count _ c.put_end.ensures (a.h.count + 1) refl (omega arith)
