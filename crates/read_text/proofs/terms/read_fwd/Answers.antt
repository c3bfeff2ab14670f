use native.Mathlib.Omega.{arith}
use Rattle.read_text.proofs.TermPaths.{fwd_no, fwd_provided_no, fwd_used_no, fwd_got}
use Rattle.read_types.proofs.Taking.{step_no, step_at, read_left}
use Rattle.read_text.proofs.terms.read_fwd.Goals as goal

pub returns-in_err-at : goal.returns-in_err-at
returns-in_err-at c =
    fwd_no _ _ _ _ c.requires c.process_term.ensures
    (step_no _ c.in_err-at.was) (read_left _ _ _ c.from_residual.ensures.1)

pub returns-in_err-i : goal.returns-in_err-i
returns-in_err-i c =
    fwd_provided_no _ _ _ _ c.requires
    c.process_term.ensures (step_at _ c.in_ok-at.was)
    c.expect.ensures (step_no _ c.in_err-i.was) (read_left _ _ _ c.from_residual-in_err-i.ensures.1)

pub returns-in_err-j : goal.returns-in_err-j
returns-in_err-j c =
    fwd_used_no _ _ _ _ c.requires c.process_term.ensures (step_at _ c.in_ok-at.was)
    c.expect.ensures (step_at _ c.in_ok-i.was) c.expect-2.ensures
    (step_no _ c.in_err-j.was) (read_left _ _ _ c.from_residual-in_err-j.ensures.1)

pub returns : goal.returns
returns c =
    fwd_got _ _ _ _ c.requires c.process_term.ensures (step_at _ c.in_ok-at.was)
    c.expect.ensures (step_at _ c.in_ok-i.was) c.expect-2.ensures
    (step_at _ c.in_ok-j.was) c.term_node-n.ensures.value c.put_term.ensures
