use native.Mathlib.Omega.{arith}
use mathlib.Core.Path.{◌∙◌}
use Rattle.run_joints.specs.Tests.{pairs_start, pairs_passed, pairs_failed, pairs_end}
use Rattle.run_joints.specs.Links.{answers_once}
use Rattle.run_joints.proofs.links.linked_once.Goals as goal

pub loop-i-init : goal.loop-i-init
loop-i-init c = pairs_start

pub returns-then-not-link_new : goal.returns-then-not-link_new
returns-then-not-link_new c = answers_once _ (pairs_failed c.loop-i.invariant c.load-p.ensures.i_value (c.link_new.ensures ∙ c.if-not-link_new.true))

pub loop-i-preserved : goal.loop-i-preserved
loop-i-preserved c = pairs_passed c.loop-i.invariant c.load-p.ensures.i_value (c.link_new.ensures ∙ c.if-not-link_new.false)

pub returns : goal.returns
returns c = answers_once _ (pairs_end c.loop-i.invariant (omega arith))
