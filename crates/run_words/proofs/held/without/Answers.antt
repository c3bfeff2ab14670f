use native.Mathlib.Omega.{arith}
use Prim.Native.Nat.{◌-◌, ◌*◌}
use mathlib.Core.Path.{ap, ◌∙◌}
use lib.ListN.{get_or}
use Rattle.run_words.specs.Values.{held_in}
use Rattle.run_words.proofs.Ends.{ends_remove}
use Rattle.run_words.proofs.held.without.Goals as goal

pub returns-clause-result_value : goal.returns-clause-result_value
unfolding held_in
returns-clause-result_value c =
    let h = c.args.h in
    let e = c.copy_within.ensures in
    ends_remove h.words c.copy_within.new.self c.args.k h.count (h.count - 1) (2 * (h.count - 1)) (omega arith) (omega arith) (omega arith) (record {
      long = e.len;
      inside = λ k a b. e.by_index.0 k 0 (omega arith) (omega arith) ∙ ap (λ j. get_or h.words j 0) (omega arith);
      below = λ k a. e.by_index.1 k 0 (omega arith);
      above = λ k a. e.by_index.2 k 0 (omega arith);
    })
