use Rattle.std.proofs.Common.{arith}
use Rattle.check_types.specs.Labels.{seeking_found, seeking_on, seeking_end}
use Rattle.check_types.proofs.acting.label_number.Goals as goal

pub returns-then-labels_equal : goal.returns-then-labels_equal
returns-then-labels_equal c = seeking_found _ _ _ _ _ c.loop-k.invariant (omega arith) c.pair-p.ensures c.labels_equal.ensures c.if-labels_equal.true

pub loop-k-preserved : goal.loop-k-preserved
loop-k-preserved c = seeking_on _ _ _ _ _ c.loop-k.invariant (omega arith) c.pair-p.ensures c.labels_equal.ensures c.if-labels_equal.false

pub returns : goal.returns
returns c = seeking_end _ _ _ _ _ c.loop-k.invariant (omega arith)
