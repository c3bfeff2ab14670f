use native.Mathlib.Omega.{arith}
use Rattle.read_text.proofs.SignaturePaths.{list_no, list_inner_no, list_got}
use Rattle.read_types.proofs.Taking.{width_pos}
use Rattle.read_types.proofs.Taking.{step_no, step_at, read_no, read_at, read_left}
use Rattle.read_text.proofs.signatures.entry_list.Goals as goal

pub returns-in_err-opening : goal.returns-in_err-opening
returns-in_err-opening c =
    list_no _ _ _ _ c.requires.0 _ _ _ (width_pos c.args.opens) c.opening.ensures (step_no _ c.in_err-opening.was)
    (read_left _ _ _ c.from_residual.ensures.1)

pub returns-in_err-entries_or_none : goal.returns-in_err-entries_or_none
returns-in_err-entries_or_none c =
    list_inner_no _ _ _ _ c.requires.0 _ _ _ (width_pos c.args.opens) c.opening.ensures
    (step_at _ c.in_ok-opening.was)
    c.entries_or_none.ensures (read_no _ _ c.in_err-entries_or_none.was) (read_left _ _ _ c.from_residual-in_err-entries_or_none.ensures.1)

pub returns : goal.returns
returns c =
    list_got _ _ _ _ c.requires.0 _ _ _ (width_pos c.args.opens) c.opening.ensures (step_at _ c.in_ok-opening.was)
    c.entries_or_none.ensures (read_at _ _ c.in_ok-entries_or_none.was)
