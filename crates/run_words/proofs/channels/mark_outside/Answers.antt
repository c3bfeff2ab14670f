use native.Mathlib.Omega.{arith}
use Prim.Native.Nat.{◌-◌}
use Rattle.run_words.specs.Raw.{raw_in}
use Rattle.run_words.proofs.Marks.{mark, marked_as, outside_turn}
use Rattle.run_words.proofs.channels.mark_outside.Goals as goal

pub loop-k-preserved : goal.loop-k-preserved
loop-k-preserved c =
    let a = c.args in
    λ m. marked_as _ (outside_turn (raw_in a.run.now).outside (c.loop-k.k - 1) c.loop-k.k c.wide.result c.outside_at-o.ensures.k_value (omega arith) c.wide.ensures.value)
    (mark c.loop-k.marks _ c.wide.result (omega (arith, c.outside_at-o.ensures.bounded_outside.channel)) (c.loop-k.invariant m))
