use Rattle.call_positions.proofs.Walks.{walked_on, walked_all}
use borrow.Author.Rules.{rules}
use Rattle.call_positions.proofs.position.after.Goals as goal

pub loop-b-preserved : goal.loop-b-preserved
loop-b-preserved c = walked_on c.loop-b.invariant (search rules) c.advanced-p.ensures

pub returns : goal.returns
returns c = walked_all c.loop-b.invariant (search rules)
