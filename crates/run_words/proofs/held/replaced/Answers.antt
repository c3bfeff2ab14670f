use native.Mathlib.Omega.{arith}
use Rattle.run_words.specs.Values.{held_in}
use Rattle.run_words.proofs.Ends.{ends_set}
use Rattle.run_words.proofs.held.replaced.Goals as goal

pub returns-clause-result_value : goal.returns-clause-result_value
unfolding held_in
returns-clause-result_value c = let a = c.args in ends_set _ _ a.h.count a.k _ c.put_end.ensures (omega arith)
