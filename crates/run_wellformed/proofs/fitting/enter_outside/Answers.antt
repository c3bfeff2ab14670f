use native.Mathlib.Omega.{arith}
use mathlib.Core.Path.{ap}
use mathlib.Core.List.{map}
use Rattle.run_words.specs.Raw.{raw_in}
use Rattle.run_words.specs.ListLaws.{all_at}
use Rattle.std.proofs.Common.{drop_of_length-le}
use Rattle.run_wellformed.specs.Entering.{outside_turn}
use Rattle.run_wellformed.specs.Kept.{outside_end, left_next, left_stop, left_end}
use Rattle.run_wellformed.specs.OfText.{OutsideOf}
use Rattle.run_wellformed.proofs.fitting.enter_outside.Goals as goal

pub enter-requires-clause-node : goal.enter-requires-clause-node
enter-requires-clause-node c = (
  all_at (OutsideOf c.args.scratch.now) (raw_in c.args.run.now).outside c.loop-k.k c.requires.bounded.1.outside
      c.outside_at-o.ensures.k_value,
  c.outside_at-o.ensures.bounded_outside.channel,
  omega arith,
)

pub returns-then-not-enter : goal.returns-then-not-enter
returns-then-not-enter c =
    left_stop c.args.text.now c.args.scratch.now c.loop-k.invariant.1 _ _
    (outside_turn (raw_in c.args.run.now).outside c.loop-k.k c.outside_at-o.ensures.k_value) c.if-not-enter.true c.enter.ensures.entered

pub loop-k-preserved : goal.loop-k-preserved
loop-k-preserved c = (
  c.enter.ensures.still_kept,
  left_next c.args.text.now c.args.scratch.now c.loop-k.invariant.1 _ _
      (outside_turn (raw_in c.args.run.now).outside c.loop-k.k c.outside_at-o.ensures.k_value) c.if-not-enter.false c.enter.ensures.entered,
)

pub returns : goal.returns
returns c =
    left_end c.args.text.now c.args.scratch.now c.loop-k.invariant.1
    (ap (map outside_end) (drop_of_length-le (raw_in c.args.run.now).outside (omega arith)))
