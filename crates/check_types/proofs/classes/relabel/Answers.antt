use Rattle.std.proofs.Common.{◌<◌, length, arith}
use Rattle.run_words.proofs.Rows.{moved_none}
use Rattle.check_types.specs.Classes.{relabel_hit, relabel_miss}
use Rattle.check_types.proofs.classes.relabel.Goals as goal
use Rattle.check_types.proofs.classes.relabel.Goals.{then-representative-hi, else-representative-hi}

pub loop-representative-init : goal.loop-representative-init
loop-representative-init c = moved_none _ _ _ _ (omega arith)

pub loop-representative-preserved : goal.loop-representative-preserved
loop-representative-preserved c =
    let m = c.loop-representative.invariant in
    let l : c.loop-representative.representative-index < length c.loop-representative.representatives = omega (arith, m.long) in
    elim c.if-representative-hi.branch [
      | then-representative-hi w ↦ rw w.representative-is (relabel_hit c.args.hi c.args.lo m l w.if-representative-hi.true)
      | else-representative-hi w ↦ rw w.representative-is (relabel_miss c.args.hi c.args.lo m l w.if-representative-hi.false)
    ]

pub returns : goal.returns
returns c = λ l. let m = c.loop-representative.invariant in record { long = m.long; is = λ i h. m.inside i (omega arith) (omega arith) }
