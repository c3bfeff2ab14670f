use mathlib.Core.Path.{◌∙◌}
use Rattle.run_steps.specs.Trials.{run_copied, formed_copied, can_go_on_so}
use Rattle.run_steps.proofs.trials.can_go_on.Goals as goal

pub step_first-requires-clause-run_of : goal.step_first-requires-clause-run_of
step_first-requires-clause-run_of c = run_copied c.requires.run_of c.copy_of-copy.ensures

pub step_first-requires-clause-well_formed : goal.step_first-requires-clause-well_formed
step_first-requires-clause-well_formed c = formed_copied c.requires.run_of c.copy_of-copy.ensures c.requires.well_formed

pub step_first-requires-clause-small_signatures : goal.step_first-requires-clause-small_signatures
step_first-requires-clause-small_signatures c = c.requires.small_signatures

pub returns : goal.returns
returns c =
    c.was_carried.ensures ∙ can_go_on_so c.requires.run_of c.copy_of-copy.ensures
    c.step_first.ensures
