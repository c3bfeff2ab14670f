use borrow.Author.Tests.{lt-ltb, le-ltb}
use Rattle.check_declarations.specs.Lowest.{under_nothing, under_lower, under_higher}
use Rattle.check_declarations.proofs.lowest.lowered.Goals as goal

pub returns-in_default : goal.returns-in_default
returns-in_default c = under_nothing c.in_default.is

pub returns-then-at-i : goal.returns-then-at-i
returns-then-at-i c = under_lower c.in-Some.is (lt-ltb _ _ c.if-at-i.true)

pub returns : goal.returns
returns c = under_higher c.in-Some.is (le-ltb _ _ c.if-at-i.false)
