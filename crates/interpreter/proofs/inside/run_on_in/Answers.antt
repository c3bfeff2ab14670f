use mathlib.Core.Path.{refl}
use Rattle.std.proofs.lemmas.Result.{err_from_is_err_and}
use Rattle.interpreter.specs.Entries.{to_run_on}
use Rattle.check_accepted.specs.Texts.{bodies_in}
use Rattle.interpreter.specs.Told.{run_in, well_formed_in, run_told}
use Rattle.interpreter.proofs.inside.run_on_in.Goals as goal

pub returns-in_err-holds_run : goal.returns-in_err-holds_run
returns-in_err-holds_run c =
    let p = err_from_is_err_and c.from_residual.result c.from_residual.ensures.1 in
    rw (p.1, p.2) (c.in_err-holds_run.ensures.err.refuses (to_run_on _) refl)

pub steps_until-end-requires-clause-run_of : goal.steps_until-end-requires-clause-run_of
steps_until-end-requires-clause-run_of c = let h = c.in_ok-holds_run.ensures.ok in run_in c.requires _ h.0 h.1

pub steps_until-end-requires-clause-well_formed : goal.steps_until-end-requires-clause-well_formed
steps_until-end-requires-clause-well_formed c = well_formed_in c.requires _ c.in_ok-holds_run.ensures.ok.1

pub steps_until-end-requires-clause-bodies : goal.steps_until-end-requires-clause-bodies
steps_until-end-requires-clause-bodies c = bodies_in c.requires

pub returns : goal.returns
returns c = let h = c.in_ok-holds_run.ensures.ok in run_told c.requires h.0 h.1 c.steps_until-end.ensures
