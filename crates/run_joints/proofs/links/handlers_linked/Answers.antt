use native.Mathlib.Omega.{arith}
use mathlib.Core.Path.{◌∙◌}
use Rattle.run_joints.specs.Tests.{each_passed, each_failed, each_end}
use Rattle.run_joints.specs.Links.{answers_linked}
use Rattle.run_joints.proofs.links.handlers_linked.Goals as goal

pub returns-then-not-handler_linked : goal.returns-then-not-handler_linked
returns-then-not-handler_linked c = answers_linked _ (each_failed c.loop-i.invariant c.load-p.ensures.i_value (c.handler_linked.ensures ∙ c.if-not-handler_linked.true))

pub loop-i-preserved : goal.loop-i-preserved
loop-i-preserved c = each_passed c.loop-i.invariant c.load-p.ensures.i_value (c.handler_linked.ensures ∙ c.if-not-handler_linked.false)

pub returns : goal.returns
returns c = answers_linked _ (each_end c.loop-i.invariant (omega arith))
