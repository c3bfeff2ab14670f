use native.Mathlib.Omega.{arith}
use Rattle.read_text.proofs.TermPaths.{rest_none, rest_no, rest_on}
use Rattle.read_types.proofs.Taking.{left, step_no, step_at}
use Rattle.read_text.proofs.turns.follow.Goals as goal

pub returns-in_err-expect : goal.returns-in_err-expect
returns-in_err-expect c =
    rest_no _ c.args.n _ _ _ _ c.requires.room.0 c.requires.room.1 c.next_token-t.result c.next_token-t.ensures.value c.next_token-t.ensures.onward
    c.if-t-eq-SEMICOLON.true c.expect.ensures (step_no _ c.in_err-expect.was) (left _ c.from_residual.ensures.1)

pub returns-then-t-eq-SEMICOLON : goal.returns-then-t-eq-SEMICOLON
returns-then-t-eq-SEMICOLON c =
    rest_on _ c.args.n _ _ _ _ c.requires.room.0 c.requires.room.1 c.next_token-t.result c.next_token-t.ensures.value c.next_token-t.ensures.onward
    c.if-t-eq-SEMICOLON.true c.expect.ensures (step_at _ c.in_ok-expect.was) c.put_before.ensures

pub returns : goal.returns
returns c =
    rest_none _ c.args.n _ _ _ _ c.requires.room.0 c.requires.room.1 c.next_token-t.result c.next_token-t.ensures.value c.next_token-t.ensures.onward
    c.if-t-eq-SEMICOLON.false c.put_pointing.ensures
