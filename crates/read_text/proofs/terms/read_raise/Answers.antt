use native.Mathlib.Omega.{arith}
use Rattle.read_text.proofs.TermPaths.{raise_no, raise_on}
use Rattle.read_types.proofs.Taking.{left, step_no, step_at}
use Rattle.read_text.proofs.terms.read_raise.Goals as goal

pub returns-in_err-at : goal.returns-in_err-at
returns-in_err-at c =
    raise_no _ _ _ _ c.requires c.process_term.ensures
    (step_no _ c.in_err-at.was) (left _ c.from_residual.ensures.1)

pub returns : goal.returns
returns c = raise_on _ _ _ _ c.requires c.process_term.ensures (step_at _ c.in_ok-at.was) c.term_node-n.ensures.value c.put_before.ensures
