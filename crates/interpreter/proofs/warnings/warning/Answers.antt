use Rattle.std.proofs.Common.{◌≤◌, length, rules}
use Rattle.std.proofs.lemmas.Result.{err_from_is_err_and}
use Rattle.notation.specs.Limits.{scratch_words}
use Rattle.check_accepted.specs.Texts.{tables_in, typed_in_lem}
use Rattle.check_accepted.specs.Verdicts.{text_accepted}
use Rattle.interpreter.specs.Inside.{scratch_long}
use Rattle.interpreter.specs.Warns.{warns_accepted, warns_refused}
use Rattle.interpreter.proofs.warnings.warning.Goals as goal

pub returns-in_err-check : goal.returns-in_err-check
returns-in_err-check c =
    let p = err_from_is_err_and c.from_residual.result c.from_residual.ensures.1 in
    rw (p.1, p.2) (warns_refused _ _ _ _ c.check.ensures c.in_err-check.was)

pub slice_bounds-warning-end : goal.slice_bounds-warning-end
slice_bounds-warning-end c =
    let h : scratch_words ≤ length c.check.new.scratch = scratch_long _ _ _ _ c.check.ensures c.in_ok-check.was in
    search rules

pub warning-told-requires : goal.warning-told-requires
warning-told-requires c = let t = text_accepted _ _ _ _ c.check.ensures c.in_ok-check.was in (tables_in t, typed_in_lem t)

pub returns : goal.returns
returns c = warns_accepted _ _ _ _ c.check.ensures c.in_ok-check.was c.warning-told.ensures
