use Rattle.read_types.proofs.Taking.{expect_at, expect_no}
use borrow.Author.Rules.{rules}
use Rattle.read_types.proofs.steps.expect.Goals as goal

pub returns-then-t-kind : goal.returns-then-t-kind
returns-then-t-kind c = expect_at _ _ _ _ c.next_token-t.ensures.value c.next_token-t.ensures.onward (search rules) c.if-t-kind.true

pub returns : goal.returns
returns c = expect_no _ _ _ _ c.next_token-t.ensures.value c.next_token-t.ensures.onward c.if-t-kind.false _ c.fault.ensures
