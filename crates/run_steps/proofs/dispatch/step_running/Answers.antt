use mathlib.Core.Path.{ap}
use Rattle.calculus.specs.WellFormed.{is_waiting}
use Rattle.run_alone.specs.Run.{doing_as}
use Rattle.run_messages.specs.Room.{unlinked_here}
use Rattle.run_steps.specs.Dispatch.{node_rules, empty_ruled}
use Rattle.run_steps.proofs.dispatch.step_running.Goals as goal

pub step_term-requires-clause-ruled_by : goal.step_term-requires-clause-ruled_by
step_term-requires-clause-ruled_by c = node_rules c.args.text.now c.args.scratch.now c.args.run.now c.requires.run_of c.requires.well_formed c.args.place c.args.p c.requires.stands_at _ c.in-Some.ensures

pub leave-requires-clause-unlinked : goal.leave-requires-clause-unlinked
leave-requires-clause-unlinked c =
    unlinked_here c.args.text.now c.args.scratch.now c.args.run.now c.requires.well_formed c.args.place c.args.p c.requires.stands_at
    (ap (λ k. is_waiting (doing_as c.args.text.now c.args.scratch.now k c.args.p.pointer)) c.requires.kind_value)

pub returns-in-None : goal.returns-in-None
returns-in-None c =
    empty_ruled c.args.text.now c.args.scratch.now c.args.run.now c.requires.run_of c.requires.well_formed c.args.place c.args.p c.requires.stands_at c.requires.kind_value
    (c.in-None.ensures c.requires.kind_value) c.leave.ensures
