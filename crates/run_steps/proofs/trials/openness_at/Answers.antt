use mathlib.Core.Path.{sym, ◌∙◌}
use Rattle.run_steps.specs.Trials.{run_copied, formed_copied, openness_halted, openness_at_so}
use Rattle.run_steps.proofs.trials.openness_at.Goals as goal

pub is_halted-requires : goal.is_halted-requires
is_halted-requires c = c.requires.run_of.wide

pub returns-then-is_halted : goal.returns-then-is_halted
returns-then-is_halted c = openness_halted c.args.text.now c.args.scratch.now c.args.run.now _ (sym c.is_halted.ensures ∙ c.if-is_halted.true)

pub step_at-requires-clause-run_of : goal.step_at-requires-clause-run_of
step_at-requires-clause-run_of c = run_copied c.requires.run_of c.copy_of-copy.ensures

pub step_at-requires-clause-well_formed : goal.step_at-requires-clause-well_formed
step_at-requires-clause-well_formed c = formed_copied c.requires.run_of c.copy_of-copy.ensures c.requires.well_formed

pub step_at-requires-clause-small_signatures : goal.step_at-requires-clause-small_signatures
step_at-requires-clause-small_signatures c = c.requires.small_signatures

pub returns : goal.returns
returns c =
    c.openness.ensures
    ∙ openness_at_so c.requires.run_of c.copy_of-copy.ensures _ (sym c.is_halted.ensures ∙ c.if-is_halted.false) c.step_at.ensures
