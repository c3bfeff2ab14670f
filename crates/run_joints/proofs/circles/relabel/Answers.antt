use native.Mathlib.Omega.{arith}
use Rattle.std.proofs.lemmas.Grind.{common_steps}
use Rattle.std.proofs.lemmas.Bool.Decides.{nat_tests}
use Rattle.theory_decision.specs.Circles.{relabelled}
use Rattle.run_joints.proofs.circles.relabel.Goals as goal

pub loop-label-preserved : goal.loop-label-preserved
unfolding relabelled
loop-label-preserved c =
    let m = c.loop-label.invariant in
    record {
      long = grind (arith, common_steps);
      inside = λ k a b. grind (arith, common_steps, nat_tests, m.inside k, m.above k);
      below = λ k a. absurd (omega arith);
      above = λ k a. grind (arith, common_steps, m.above k);
    }
