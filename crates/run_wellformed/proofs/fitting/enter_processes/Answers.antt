use native.Mathlib.Omega.{arith}
use mathlib.Core.Path.{ap}
use Rattle.run_words.specs.Raw.{raw_in}
use Rattle.run_words.specs.ListLaws.{all_at}
use Rattle.std.proofs.Common.{drop_of_length-le}
use Rattle.run_wellformed.specs.Entering.{process_turn}
use Rattle.run_wellformed.specs.Kept.{process_ends, left_next, left_stop, left_end}
use Rattle.run_wellformed.specs.OfText.{ProcessOf}
use Rattle.run_wellformed.proofs.fitting.enter_processes.Goals as goal

pub enter_held-requires-clause-count_le_held_limit : goal.enter_held-requires-clause-count_le_held_limit
enter_held-requires-clause-count_le_held_limit c = (
  c.load-p.ensures.count_le_held_limit,
  (all_at (ProcessOf c.args.scratch.now) (raw_in c.args.run.now).processes c.loop-i.i
      c.requires.bounded.1.processes c.load-p.ensures.i_value).held,
)

pub returns-then-not-enter_held-clause-entered : goal.returns-then-not-enter_held-clause-entered
returns-then-not-enter_held-clause-entered c =
    left_stop c.args.text.now c.args.scratch.now c.loop-i.invariant.1 _ _ (process_turn (raw_in c.args.run.now).processes c.loop-i.i c.load-p.ensures.i_value)
    c.if-not-enter_held.true c.enter_held.ensures.entered

pub loop-i-preserved : goal.loop-i-preserved
loop-i-preserved c = (
  c.enter_held.ensures.still_kept,
  left_next c.args.text.now c.args.scratch.now c.loop-i.invariant.1 _ _
      (process_turn (raw_in c.args.run.now).processes c.loop-i.i c.load-p.ensures.i_value) c.if-not-enter_held.false c.enter_held.ensures.entered,
)

pub returns-clause-entered : goal.returns-clause-entered
returns-clause-entered c =
    left_end c.args.text.now c.args.scratch.now c.loop-i.invariant.1
    (ap process_ends (drop_of_length-le (raw_in c.args.run.now).processes (omega arith)))
