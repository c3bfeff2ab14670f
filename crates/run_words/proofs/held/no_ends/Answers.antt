use mathlib.Core.Path.{refl}
use Rattle.run_words.specs.Values.{held_in}
use Rattle.run_words.proofs.held.no_ends.Goals as goal

pub returns-clause-result_value : goal.returns-clause-result_value
unfolding held_in
returns-clause-result_value c = refl
