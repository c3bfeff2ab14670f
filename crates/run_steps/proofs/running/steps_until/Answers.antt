use mathlib.Core.Path.{sym}
use Rattle.run_steps.specs.Running.{ends_halted, ends_spent}
use Rattle.run_steps.proofs.running.steps_until.Goals as goal

pub returns-then-is_halted : goal.returns-then-is_halted
returns-then-is_halted c = ends_halted c.args.text.now c.args.scratch.now c.args.run.now c.args.budget c.requires.run_of (sym c.if-is_halted.ensures)

pub returns-in-None : goal.returns-in-None
returns-in-None c = ends_spent c.args.text.now c.args.scratch.now c.args.run.now c.args.budget c.in-None.ensures c.spent.ensures
