use Rattle.std.proofs.Common.{refl, ◌∙◌, arith}
use Rattle.run_words.proofs.Rows.{moved_none, moved_up}
use Rattle.check_types.proofs.classes.own_each.Goals as goal

pub loop-k-init : goal.loop-k-init
loop-k-init c = λ l. moved_none _ _ _ _ (omega arith)

pub loop-k-preserved : goal.loop-k-preserved
loop-k-preserved c = λ l. let m = c.loop-k.invariant l in moved_up _ _ c.loop-k.representatives 0 c.loop-k.k _ _ m (omega arith) (omega (arith, m.long)) refl refl

pub returns : goal.returns
returns c = λ l. let m = c.loop-k.invariant l in record { long = m.long ∙ l; is = λ i h. m.inside i (omega arith) (omega arith) }
