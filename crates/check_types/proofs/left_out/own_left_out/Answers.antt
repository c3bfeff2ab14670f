use Rattle.check_types.specs.LeftOut.{own_not, own_here, own_past}
use Rattle.check_types.proofs.left_out.own_left_out.Goals as goal

pub returns-then-is_some : goal.returns-then-is_some
returns-then-is_some c = own_not c.branch_of.ensures c.if-is_some.ensures _

pub returns-then-k-eq0 : goal.returns-then-k-eq0
returns-then-k-eq0 c = own_here c.branch_of.ensures c.if-is_some.ensures _ c.if-k-eq0.true

pub returns : goal.returns
returns c = own_past c.branch_of.ensures c.if-is_some.ensures _ c.if-k-eq0.false
