use mathlib.Core.Path.{refl, sym, ◌∙◌, subst}
use native.Mathlib.Omega.{arith}
use Rattle.calculus.specs.WellFormed.{WellFormed}
use Rattle.read_tables.specs.Program.{program_in}
use Rattle.run_alone.specs.Run.{config_in, RunOf}
use Rattle.run_steps.specs.Choosing.{skipped_none, from_same, skips, carries_first, carries_none}
use Rattle.run_steps.proofs.choosing.step_first.Goals as goal

pub count-n-requires : goal.count-n-requires
count-n-requires c = c.requires.run_of.wide

pub loop-i-init : goal.loop-i-init
loop-i-init c = (refl, skipped_none _ _)

pub step_at-r-requires-clause-run_of : goal.step_at-r-requires-clause-run_of
step_at-r-requires-clause-run_of c = let same = c.loop-i.invariant.0 in subst (RunOf c.args.text.now c.args.scratch.now) (sym same) c.requires.run_of

pub step_at-r-requires-clause-well_formed : goal.step_at-r-requires-clause-well_formed
step_at-r-requires-clause-well_formed c = let same = c.loop-i.invariant.0 in subst (λ l. WellFormed (program_in c.args.text.now c.args.scratch.now) (config_in c.args.text.now c.args.scratch.now l)) (sym same) c.requires.well_formed

pub step_at-r-requires-clause-small_signatures : goal.step_at-r-requires-clause-small_signatures
step_at-r-requires-clause-small_signatures c = c.requires.small_signatures

pub returns-then-was_carried : goal.returns-then-was_carried
returns-then-was_carried c =
    let run = c.args.run.now in
    carries_first c.args.text.now c.args.scratch.now run c.loop-i.i c.loop-i.invariant.1
    (omega (arith, c.loop-i-test.true, c.count-n.ensures))
    (from_same c.args.text.now c.args.scratch.now run c.loop-i.i c.loop-i.invariant.0 c.step_at-r.ensures)
    (sym c.was_carried.ensures ∙ c.if-was_carried.true)

pub loop-i-preserved : goal.loop-i-preserved
loop-i-preserved c =
    let run = c.args.run.now in
    skips c.args.text.now c.args.scratch.now run c.loop-i.i c.loop-i.invariant.1
    (omega (arith, c.loop-i-test.true, c.count-n.ensures))
    (from_same c.args.text.now c.args.scratch.now run c.loop-i.i c.loop-i.invariant.0 c.step_at-r.ensures)
    (sym c.was_carried.ensures ∙ c.if-was_carried.false)

pub returns : goal.returns
returns c = carries_none c.args.text.now c.args.scratch.now c.args.run.now c.loop-i.i c.loop-i.invariant.0 c.loop-i.invariant.1 (omega (arith, c.loop-i-test.false, c.count-n.ensures))
