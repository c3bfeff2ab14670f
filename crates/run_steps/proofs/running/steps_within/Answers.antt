use mathlib.Core.Path.{sym, ◌∙◌}
use native.Mathlib.Omega.{arith}
use Rattle.run_steps.specs.Running.{running_start, ends_done, ends_full, ends_uncaught, ends_shown, running_on_lem}
use Rattle.run_steps.proofs.running.steps_within.Goals as goal

pub loop-taken-init : goal.loop-taken-init
loop-taken-init c = running_start c.args.text.now c.args.scratch.now c.args.run.now c.args.budget c.requires.run_of c.requires.well_formed c.requires.run_value

pub returns-then-count-eq0 : goal.returns-then-count-eq0
returns-then-count-eq0 c = ends_done c.args.text.now c.args.scratch.now c.args.run.now c.args.budget c.loop-taken.taken c.loop-taken.invariant (sym c.count.ensures ∙ c.if-count-eq0.true)

pub returns-then-shows : goal.returns-then-shows
returns-then-shows c =
    ends_shown c.args.text.now c.args.scratch.now c.args.run.now c.args.budget c.loop-taken.taken c.loop-taken.invariant c.loop-taken-test.true (omega (arith, c.count.ensures)) c.in-Carried.ensures c.requires.bodies (sym c.if-shows.ensures)

pub loop-taken-preserved : goal.loop-taken-preserved
loop-taken-preserved c =
    running_on_lem c.args.text.now c.args.scratch.now c.args.run.now c.args.budget c.loop-taken.taken c.loop-taken.invariant c.loop-taken-test.true (omega (arith, c.count.ensures)) c.in-Carried.ensures c.requires.bodies (sym c.if-shows.ensures)

pub returns-in-Uncaught : goal.returns-in-Uncaught
returns-in-Uncaught c =
    ends_uncaught c.args.text.now c.args.scratch.now c.args.run.now c.args.budget c.loop-taken.taken c.loop-taken.invariant c.loop-taken-test.true (omega (arith, c.count.ensures)) c.in-Uncaught.ensures

pub returns-in-NotOpen : goal.returns-in-NotOpen
returns-in-NotOpen c =
    ends_full c.args.text.now c.args.scratch.now c.args.run.now c.args.budget c.loop-taken.taken c.loop-taken.invariant c.loop-taken-test.true (omega (arith, c.count.ensures)) c.step_first.ensures c.in-NotOpen.is
