use native.Mathlib.Omega.{arith}
use Rattle.run_words.specs.Values.{held_in, held_length}
use Rattle.run_words.specs.ListLaws.{all_at}
use Rattle.std.proofs.Common.{drop_of_length-le}
use Rattle.run_wellformed.specs.Entering.{held_turn}
use Rattle.run_wellformed.specs.Kept.{left_next, left_stop, left_end}
use Rattle.run_wellformed.specs.OfText.{EndOf}
use Rattle.run_wellformed.proofs.fitting.enter_held.Goals as goal

pub enter-requires-clause-node : goal.enter-requires-clause-node
enter-requires-clause-node c = (
  all_at (EndOf c.args.scratch.now) (held_in c.args.h) c.loop-k.k c.requires.count_le_held_limit.1 c.end_at.ensures.k_value,
  c.end_at.ensures.side_lt_side_radix.1,
  c.end_at.ensures.side_lt_side_radix.0,
)

pub returns-then-not-enter-clause-entered : goal.returns-then-not-enter-clause-entered
returns-then-not-enter-clause-entered c =
    left_stop c.args.text.now c.args.scratch.now c.loop-k.invariant.1 _ _ (held_turn (held_in c.args.h) c.loop-k.k c.end_at.ensures.k_value)
    c.if-not-enter.true c.enter.ensures.entered

pub loop-k-preserved : goal.loop-k-preserved
loop-k-preserved c = (
  c.enter.ensures.still_kept,
  left_next c.args.text.now c.args.scratch.now c.loop-k.invariant.1 _ _
      (held_turn (held_in c.args.h) c.loop-k.k c.end_at.ensures.k_value) c.if-not-enter.false c.enter.ensures.entered,
)

pub returns-clause-entered : goal.returns-clause-entered
returns-clause-entered c =
    let h = c.args.h in left_end c.args.text.now c.args.scratch.now c.loop-k.invariant.1
    (drop_of_length-le (held_in h) (omega (arith, held_length h)))
