use native.Mathlib.Omega.{arith}
use Rattle.read_text.proofs.NamePaths.{call_no, call_name_no, call_provided_no, call_used_no, call_got}
use Rattle.read_types.proofs.Taking.{step_no, step_at, read_left}
use Rattle.read_text.proofs.terms.read_call.Goals as goal

pub returns-in_err-at : goal.returns-in_err-at
returns-in_err-at c =
    call_no _ _ _ _ c.requires c.process_term.ensures
    (step_no _ c.in_err-at.was) (read_left _ _ _ c.from_residual.ensures.1)

pub returns-in_err-i : goal.returns-in_err-i
returns-in_err-i c =
    call_name_no _ _ _ _ c.requires
    c.process_term.ensures (step_at _ c.in_ok-at.was)
    c.expect.ensures (step_no _ c.in_err-i.was) (read_left _ _ _ c.from_residual-in_err-i.ensures.1)

pub returns-in_err-bracket : goal.returns-in_err-bracket
returns-in_err-bracket c =
    call_provided_no _ _ _ _ c.requires c.process_term.ensures (step_at _ c.in_ok-at.was)
    c.expect.ensures (step_at _ c.in_ok-i.was) c.name_list.ensures
    (step_no _ c.in_err-bracket.was) (read_left _ _ _ c.from_residual-in_err-bracket.ensures.1)

pub returns-in_err-name_list : goal.returns-in_err-name_list
returns-in_err-name_list c =
    call_used_no _ _ _ _ c.requires c.process_term.ensures (step_at _ c.in_ok-at.was)
    c.expect.ensures (step_at _ c.in_ok-i.was) c.name_list.ensures
    (step_at _ c.in_ok-bracket.was) c.name_list-2.ensures (step_no _ c.in_err-name_list.was) (read_left _ _ _ c.from_residual-in_err-name_list.ensures.1)

pub returns : goal.returns
returns c =
    call_got _ _ _ _ c.requires c.process_term.ensures (step_at _ c.in_ok-at.was)
    c.expect.ensures (step_at _ c.in_ok-i.was) c.name_list.ensures
    (step_at _ c.in_ok-bracket.was) c.name_list-2.ensures (step_at _ c.in_ok-name_list.was)
    c.term_node-n.ensures.value c.put_term.ensures
