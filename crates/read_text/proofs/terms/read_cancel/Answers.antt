use native.Mathlib.Omega.{arith}
use Rattle.read_text.proofs.TermPaths.{cancel_no, cancel_name_no, cancel_on}
use Rattle.read_types.proofs.Taking.{left, step_no, step_at}
use Rattle.read_text.proofs.terms.read_cancel.Goals as goal

pub returns-in_err-at : goal.returns-in_err-at
returns-in_err-at c =
    cancel_no _ _ _ _ c.requires c.process_term.ensures
    (step_no _ c.in_err-at.was) (left _ c.from_residual.ensures.1)

pub returns-in_err-i : goal.returns-in_err-i
returns-in_err-i c =
    cancel_name_no _ _ _ _ c.requires
    c.process_term.ensures (step_at _ c.in_ok-at.was)
    c.expect.ensures (step_no _ c.in_err-i.was) (left _ c.from_residual-in_err-i.ensures.1)

pub returns : goal.returns
returns c =
    cancel_on _ _ _ _ c.requires c.process_term.ensures (step_at _ c.in_ok-at.was)
    c.expect.ensures (step_at _ c.in_ok-i.was) c.term_node-n.ensures.value c.follow.ensures
