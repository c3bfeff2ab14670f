use native.Mathlib.Omega.{arith}
use mathlib.Core.Path.{sym, ◌∙◌}
use Rattle.run_wellformed.specs.Typing.{typed_in}
use Rattle.run_words.specs.Raw.{raw_in}
use Rattle.run_words.specs.ListLaws.{all_at}
use Rattle.run_wellformed.specs.OfText.{ProcessOf}
use Rattle.run_joints.specs.Tests.{each_passed, each_failed, each_end, all_from_lem}
use Rattle.run_wellformed.proofs.typing.processes_typed.Goals as goal

pub typed_after-requires-clause-process_of : goal.typed_after-requires-clause-process_of
typed_after-requires-clause-process_of c = (
  all_at (ProcessOf c.args.scratch.now) (raw_in c.args.run.now).processes c.loop-i.i c.requires.of_text.processes c.load-p.ensures.i_value,
  (_, c.load-p.ensures.bounded_process),
  c.load-p.ensures.count_le_held_limit,
)

pub returns-then-not-typed_after : goal.returns-then-not-typed_after
returns-then-not-typed_after c =
    sym (all_from_lem (typed_in c.args.text.now c.args.scratch.now) 0 (raw_in c.args.run.now).processes ∙ each_failed c.loop-i.invariant.0
    c.load-p.ensures.i_value (sym c.typed_after.ensures ∙ c.if-not-typed_after.true))

pub loop-i-preserved : goal.loop-i-preserved
loop-i-preserved c =
    let typed = sym c.typed_after.ensures ∙ c.if-not-typed_after.false in
    (each_passed c.loop-i.invariant.0 c.load-p.ensures.i_value typed, c.load-p.ensures.count_le_held_limit, typed)

pub returns : goal.returns
returns c = sym (all_from_lem (typed_in c.args.text.now c.args.scratch.now) 0 (raw_in c.args.run.now).processes ∙ each_end c.loop-i.invariant.0 (omega arith))
