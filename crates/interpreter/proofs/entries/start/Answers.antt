use Rattle.std.proofs.Common.{◌≤◌, length, rules}
use Rattle.std.proofs.lemmas.Result.{err_from_is_err_and}
use Rattle.notation.specs.Limits.{scratch_words}
use Rattle.check_accepted.specs.Verdicts.{text_accepted}
use Rattle.interpreter.specs.Inside.{scratch_long, answers_accepted, answers_refused}
use Rattle.interpreter.specs.Entries.{to_start}
use Rattle.interpreter.proofs.entries.start.Goals as goal

pub returns-in_err-check : goal.returns-in_err-check
returns-in_err-check c =
    let p = err_from_is_err_and c.from_residual.result c.from_residual.ensures.1 in
    rw (p.1, p.2) (answers_refused _ _ _ _ c.check.ensures (to_start c.args.line) _ c.in_err-check.was)

pub slice_bounds-start_in-end : goal.slice_bounds-start_in-end
slice_bounds-start_in-end c =
    let h : scratch_words ≤ length c.check.new.scratch = scratch_long _ _ _ _ c.check.ensures c.in_ok-check.was in
    search rules

pub start_in-requires : goal.start_in-requires
start_in-requires c = text_accepted _ _ _ _ c.check.ensures c.in_ok-check.was

pub returns : goal.returns
returns c = answers_accepted _ _ _ _ c.check.ensures (to_start c.args.line) _ c.in_ok-check.was c.start_in.ensures
