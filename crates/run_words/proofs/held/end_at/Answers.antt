use native.Mathlib.Omega.{arith}
use mathlib.Core.Path.{refl, sym, ap, ◌∙◌}
use mathlib.Core.Option.{some}
use Rattle.run_words.specs.Values.{held_in}
use Rattle.run_words.proofs.Ends.{end_here}
use Rattle.run_words.proofs.held.end_at.Goals as goal

pub returns-clause-k_value : goal.returns-clause-k_value
unfolding held_in
returns-clause-k_value c = end_here c.args.h.words c.args.h.count c.args.k _ _ (omega arith) refl refl ∙ ap some (sym c.unpacked.ensures.result_value)
