use mathlib.Core.Path.{refl}
use native.Mathlib.Omega.{arith}
use Rattle.std.proofs.lemmas.Result.{err_from_is_err_and}
use Rattle.interpreter.specs.Entries.{to_places}
use Rattle.interpreter.specs.Told.{formed_in, run_in, well_formed_in, small_in, survey_told}
use Rattle.interpreter.proofs.places.places_in.Goals as goal

pub returns-in_err-holds_run : goal.returns-in_err-holds_run
returns-in_err-holds_run c =
    let p = err_from_is_err_and c.from_residual.result c.from_residual.ensures.1 in
    rw (p.1, p.2) (record { answers = c.in_err-holds_run.ensures.err.refuses to_places refl; rest = tt })

pub list_steps-steps-requires-clause-run_of : goal.list_steps-steps-requires-clause-run_of
list_steps-steps-requires-clause-run_of c = let h = c.in_ok-holds_run.ensures.ok in run_in c.requires _ h.0 h.1

pub list_steps-steps-requires-clause-well_formed : goal.list_steps-steps-requires-clause-well_formed
list_steps-steps-requires-clause-well_formed c = well_formed_in c.requires _ c.in_ok-holds_run.ensures.ok.1

pub list_steps-steps-requires-clause-small_signatures : goal.list_steps-steps-requires-clause-small_signatures
list_steps-steps-requires-clause-small_signatures c = small_in c.requires

pub overflow_cast-result : goal.overflow_cast-result
overflow_cast-result c = omega (arith, c.count-n.ensures, (formed_in c.requires _ c.in_ok-holds_run.ensures.ok.1).bounded.places)

pub returns : goal.returns
returns c = let h = c.in_ok-holds_run.ensures.ok in survey_told c.requires h.0 h.1 c.count-n.ensures c.list_steps-steps.ensures
