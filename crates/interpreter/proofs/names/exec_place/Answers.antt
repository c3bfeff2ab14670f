use Rattle.std.proofs.Common.{◌≤◌, length, rules}
use Rattle.std.proofs.lemmas.Result.{err_from_is_err_and}
use Rattle.notation.specs.Limits.{scratch_words}
use Rattle.check_accepted.specs.Verdicts.{text_accepted}
use Rattle.interpreter.specs.Inside.{scratch_long}
use Rattle.interpreter.specs.Naming.{place_accepted, place_refused}
use Rattle.interpreter.proofs.names.exec_place.Goals as goal

pub returns-in_err-check : goal.returns-in_err-check
returns-in_err-check c =
    let p = err_from_is_err_and c.from_residual.result c.from_residual.ensures.1 in
    rw (p.1, p.2) (place_refused _ _ _ _ c.check.ensures c.in_err-check.was)

pub slice_bounds-place_in-end : goal.slice_bounds-place_in-end
slice_bounds-place_in-end c =
    let h : scratch_words ≤ length c.check.new.scratch = scratch_long _ _ _ _ c.check.ensures c.in_ok-check.was in
    search rules

pub place_in-requires : goal.place_in-requires
place_in-requires c = text_accepted _ _ _ _ c.check.ensures c.in_ok-check.was

pub returns : goal.returns
returns c = place_accepted _ _ _ _ c.check.ensures c.in_ok-check.was c.place_in.ensures
