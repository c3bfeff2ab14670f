use native.Mathlib.Omega.{arith}
use Rattle.read_text.proofs.TermPaths.{sent_no, sent_on}
use Rattle.read_types.proofs.Taking.{left, step_no, step_at}
use Rattle.read_text.proofs.terms.read_sent.Goals as goal

pub returns-in_err-j : goal.returns-in_err-j
returns-in_err-j c =
    sent_no _ _ _ _ c.requires.room _ _ c.requires.at_lt_text_limit.0 c.requires.at_lt_text_limit.1 _ c.payload_token.ensures
    (step_no _ c.in_err-j.was) (left _ c.from_residual.ensures.1)

pub returns : goal.returns
returns c =
    sent_on _ _ _ _ c.requires.room _ _ c.requires.at_lt_text_limit.0 c.requires.at_lt_text_limit.1 _ c.payload_token.ensures
    (step_at _ c.in_ok-j.was) c.payload_node-n.ensures.value c.follow.ensures
