use native.Mathlib.Nat.{add-sub_cancel_left}
use Rattle.notation.proofs.Scans.{part_none, part_rest}
use Rattle.notation.proofs.token.part.Goals as goal

pub returns-then-text-i : goal.returns-then-text-i
returns-then-text-i c = part_none c.args.text.now c.args.i c.args.n c.if-text-i.true

pub returns-then-text-i-2 : goal.returns-then-text-i-2
returns-then-text-i-2 c = part_rest c.args.text.now c.args.i c.args.n c.if-text-i-2.true

pub returns : goal.returns
returns c = rw add-sub_cancel_left
