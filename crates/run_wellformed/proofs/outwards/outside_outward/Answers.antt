use native.Mathlib.Omega.{arith}
use mathlib.Core.Path.{sym, ◌∙◌, subst}
use Rattle.run_wellformed.specs.Outward.{outward_in, outward_so}
use Rattle.read_tables.specs.Roots.{TypeIn}
use Rattle.run_words.specs.Raw.{raw_in}
use Rattle.run_words.specs.Values.{outside_in}
use Rattle.run_words.specs.ListLaws.{all_at}
use Rattle.run_wellformed.specs.OfText.{OutsideOf}
use Rattle.run_joints.specs.Tests.{each_passed, each_failed, each_end, all_from_lem}
use Rattle.run_wellformed.proofs.outwards.outside_outward.Goals as goal

pub has_other-requires : goal.has_other-requires
has_other-requires c = (
  c.requires.tables.0,
  subst (TypeIn c.args.text.now c.args.scratch.now) (sym c.wide.ensures.value)
      (c.requires.tables.1.nodes _ (all_at (OutsideOf c.args.scratch.now) (raw_in c.args.run.now).outside c.loop-k.k c.requires.of_text.outside
      c.outside_at-o.ensures.k_value)),
)

pub returns-then-has_other : goal.returns-then-has_other
returns-then-has_other c =
    sym (all_from_lem (outward_in c.args.text.now c.args.scratch.now) 0 (raw_in c.args.run.now).outside ∙ each_failed c.loop-k.invariant
    c.outside_at-o.ensures.k_value (outward_so c.args.text.now c.args.scratch.now (outside_in c.outside_at-o.result)
    c.reach-marks.ensures c.wide.ensures.value c.has_other.ensures c.if-has_other.true))

pub loop-k-preserved : goal.loop-k-preserved
loop-k-preserved c =
    each_passed c.loop-k.invariant c.outside_at-o.ensures.k_value
    (outward_so c.args.text.now c.args.scratch.now (outside_in c.outside_at-o.result) c.reach-marks.ensures
    c.wide.ensures.value c.has_other.ensures c.if-has_other.false)

pub returns : goal.returns
returns c = sym (all_from_lem (outward_in c.args.text.now c.args.scratch.now) 0 (raw_in c.args.run.now).outside ∙ each_end c.loop-k.invariant (omega arith))
