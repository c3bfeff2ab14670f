use native.Mathlib.Omega.{arith}
use mathlib.Core.Path.{◌∙◌}
use Rattle.run_joints.specs.Tests.{each_passed, each_failed, each_end}
use Rattle.run_joints.specs.Links.{answers_lead}
use Rattle.run_joints.proofs.links.links_lead.Goals as goal

pub returns-then-not-link_leads : goal.returns-then-not-link_leads
returns-then-not-link_leads c = answers_lead _ (each_failed c.loop-i.invariant c.load-p.ensures.i_value (c.link_leads.ensures ∙ c.if-not-link_leads.true))

pub loop-i-preserved : goal.loop-i-preserved
loop-i-preserved c = each_passed c.loop-i.invariant c.load-p.ensures.i_value (c.link_leads.ensures ∙ c.if-not-link_leads.false)

pub returns : goal.returns
returns c = answers_lead _ (each_end c.loop-i.invariant (omega arith))
