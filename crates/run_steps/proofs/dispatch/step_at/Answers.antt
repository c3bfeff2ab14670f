use mathlib.Core.Path.{refl, ap}
use native.Mathlib.Omega.{arith}
use Rattle.calculus.specs.WellFormed.{is_waiting}
use Rattle.run_alone.specs.Changes.{loaded}
use Rattle.run_alone.specs.Run.{doing_as}
use Rattle.run_messages.specs.Room.{unlinked_here}
use Rattle.run_steps.specs.Dispatch.{steps_as, steps_nowhere}
use Rattle.run_steps.proofs.dispatch.step_at.Goals as goal

pub returns-then-count-place : goal.returns-then-count-place
returns-then-count-place c = steps_nowhere c.args.text.now c.args.scratch.now c.args.run.now c.args.place (omega (arith, c.if-count-place.true, c.count.ensures))

pub step_running-requires-clause-stands_at : goal.step_running-requires-clause-stands_at
step_running-requires-clause-stands_at c = let load = c.load-p.ensures in loaded _ _ _ c.requires.run_of (load.i_value, (load.bounded_process, load.count_le_held_limit))

pub returns-in-0 : goal.returns-in-0
returns-in-0 c =
    let load = c.load-p.ensures in
    let stands = loaded _ _ c.load-p.result c.requires.run_of (load.i_value, (load.bounded_process, load.count_le_held_limit)) in
    steps_as _ _ _ c.requires.run_of c.requires.well_formed c.args.place c.load-p.result stands 0 c.in-0.is c.step_running.ensures

pub fold_up-requires-clause-stands_at : goal.fold_up-requires-clause-stands_at
fold_up-requires-clause-stands_at c = let load = c.load-p.ensures in loaded _ _ _ c.requires.run_of (load.i_value, (load.bounded_process, load.count_le_held_limit))

pub fold_up-requires-clause-unlinked : goal.fold_up-requires-clause-unlinked
fold_up-requires-clause-unlinked c =
    let load = c.load-p.ensures in
    let stands = loaded _ _ c.load-p.result c.requires.run_of (load.i_value, (load.bounded_process, load.count_le_held_limit)) in
    unlinked_here _ _ _ c.requires.well_formed c.args.place c.load-p.result stands (ap (λ k. is_waiting (doing_as c.args.text.now c.args.scratch.now k c.load-p.result.pointer)) c.in-1.is)

pub returns-in-1 : goal.returns-in-1
returns-in-1 c =
    let load = c.load-p.ensures in
    let stands = loaded _ _ c.load-p.result c.requires.run_of (load.i_value, (load.bounded_process, load.count_le_held_limit)) in
    steps_as _ _ _ c.requires.run_of c.requires.well_formed c.args.place c.load-p.result stands 1 c.in-1.is c.fold_up.ensures

pub returns-in_default : goal.returns-in_default
returns-in_default c =
    let load = c.load-p.ensures in
    let stands = loaded _ _ c.load-p.result c.requires.run_of (load.i_value, (load.bounded_process, load.count_le_held_limit)) in
    steps_as _ _ _ c.requires.run_of c.requires.well_formed c.args.place c.load-p.result stands 2 (omega (arith, stands.is.kind)) (record { is = (refl, refl) })
