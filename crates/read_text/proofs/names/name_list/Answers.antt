use Rattle.read_text.proofs.NamePaths.{passed_no, passed_at, list_no, list_names_no, list_got}
use Rattle.read_types.proofs.Taking.{width_pos}
use Rattle.read_types.proofs.Taking.{step_no, step_at, step_left}
use Rattle.read_text.proofs.names.name_list.Goals as goal

pub returns-in_err-i : goal.returns-in_err-i
returns-in_err-i c = list_no _ _ _ _ _ (width_pos c.args.opens) c.opening.ensures (step_no _ c.in_err-i.was) (step_left _ _ c.from_residual.ensures.1)

pub returns-in_err-names_or_none : goal.returns-in_err-names_or_none
returns-in_err-names_or_none c =
    list_names_no _ _ _ _ _ (width_pos c.args.opens)
    c.opening.ensures (step_at _ c.in_ok-i.was)
    c.names_or_none.ensures (passed_no _ _ c.in_err-names_or_none.was) (step_left _ _ c.from_residual-in_err-names_or_none.ensures.1)

pub returns : goal.returns
returns c =
    list_got _ _ _ _ _ (width_pos c.args.opens)
    c.opening.ensures (step_at _ c.in_ok-i.was)
    c.names_or_none.ensures
    (passed_at _ _ c.in_ok-names_or_none.was)
