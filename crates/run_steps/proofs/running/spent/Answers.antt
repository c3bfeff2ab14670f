use mathlib.Core.Path.{sym, ◌∙◌}
use native.Mathlib.Omega.{arith}
use Rattle.run_steps.specs.Running.{spent_done, spent_stopped, spent_full}
use Rattle.run_steps.proofs.running.spent.Goals as goal

pub returns-then-count-eq0 : goal.returns-then-count-eq0
returns-then-count-eq0 c = spent_done c.args.text.now c.args.scratch.now c.args.run.now c.args.taken c.requires.run_value (sym c.count.ensures ∙ c.if-count-eq0.true)

pub returns-then-can_go_on : goal.returns-then-can_go_on
returns-then-can_go_on c =
    spent_stopped c.args.text.now c.args.scratch.now c.args.run.now c.args.taken c.requires.run_value
    (omega (arith, c.if-count-eq0.false, c.count.ensures)) (sym c.can_go_on.ensures ∙ c.if-can_go_on.true)

pub returns : goal.returns
returns c =
    spent_full c.args.text.now c.args.scratch.now c.args.run.now c.args.taken c.requires.run_value
    (omega (arith, c.if-count-eq0.false, c.count.ensures)) (sym c.can_go_on.ensures ∙ c.if-can_go_on.false)
