use borrow.Author.Tests.{lt-ltb, le-ltb}
use Rattle.notation.proofs.Marks.{mark_by}
use Rattle.notation.proofs.token.mark_at.Goals as goal

pub returns-then-k-lt-ROUND_OPEN : goal.returns-then-k-lt-ROUND_OPEN
returns-then-k-lt-ROUND_OPEN c =
    let by = mark_by c.args.text.now c.args.i c.requires _ _ c.byte_at.ensures c.mark_kind-k.ensures in
    rw (← by, lt-ltb _ _ c.if-k-lt-ROUND_OPEN.true)

pub returns-then-k-lt-NAME : goal.returns-then-k-lt-NAME
returns-then-k-lt-NAME c =
    let by = mark_by c.args.text.now c.args.i c.requires _ _ c.byte_at.ensures c.mark_kind-k.ensures in
    rw (← by, le-ltb _ _ c.if-k-lt-ROUND_OPEN.false, lt-ltb _ _ c.if-k-lt-NAME.true)

pub returns : goal.returns
returns c =
    let by = mark_by c.args.text.now c.args.i c.requires _ _ c.byte_at.ensures c.mark_kind-k.ensures in
    rw (← by, le-ltb _ _ c.if-k-lt-ROUND_OPEN.false, le-ltb _ _ c.if-k-lt-NAME.false)
