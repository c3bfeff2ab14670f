use mathlib.Core.Path.{refl}
use native.Mathlib.Omega.{arith}
use Rattle.std.proofs.lemmas.Result.{err_from_is_err_and}
use Rattle.interpreter.specs.Entries.{to_report}
use Rattle.interpreter.specs.Told.{formed_in, report_open}
use Rattle.interpreter.proofs.reports.report_in.Goals as goal

pub returns-in_err-holds_run : goal.returns-in_err-holds_run
returns-in_err-holds_run c =
    let p = err_from_is_err_and c.from_residual.result c.from_residual.ensures.1 in
    rw (p.1, p.2) (record { answers = c.in_err-holds_run.ensures.err.refuses to_report refl; rest = tt })

pub list_numbers-numbers-requires : goal.list_numbers-numbers-requires
list_numbers-numbers-requires c = let h = c.in_ok-holds_run.ensures.ok in (h.0, (formed_in c.requires _ h.1).bounded)

pub overflow_cast-result : goal.overflow_cast-result
overflow_cast-result c = omega (arith, c.outside_count-n.ensures, (formed_in c.requires _ c.in_ok-holds_run.ensures.ok.1).bounded.channels)

pub returns : goal.returns
returns c = let h = c.in_ok-holds_run.ensures.ok in report_open c.requires h.0 h.1 c.outside_count-n.ensures c.list_numbers-numbers.ensures
