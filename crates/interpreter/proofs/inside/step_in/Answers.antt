use mathlib.Core.Path.{refl}
use Rattle.std.proofs.lemmas.Result.{err_from_is_err_and}
use Rattle.interpreter.specs.Entries.{to_step}
use Rattle.interpreter.proofs.inside.step_in.Goals as goal

pub returns-in_err-holds_run : goal.returns-in_err-holds_run
returns-in_err-holds_run c =
    let p = err_from_is_err_and c.from_residual.result c.from_residual.ensures.1 in
    rw (p.1, p.2) (c.in_err-holds_run.ensures.err.refuses (to_step _) refl)
