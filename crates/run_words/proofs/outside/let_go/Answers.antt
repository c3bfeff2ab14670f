use native.Mathlib.Omega.{arith}
use Prim.Native.Nat.{◌<◌}
use borrow.Author.Tests.{eq-eqb, ne_eqb}
use lib.ListN.{length}
use Rattle.run_words.specs.Raw.{raw_in}
use Rattle.run_words.specs.Bounds.{keeps, bounded_let_go}
use Rattle.run_words.proofs.Outsides.{letting_at, letting_none, letting_row, letting_gone, letting_kept, letting_done}
use Rattle.run_words.proofs.outside.let_go.Goals as goal
use Rattle.run_words.proofs.outside.let_go.Goals.{then-channel-o, else-channel-o}

pub loop-k-init : goal.loop-k-init
loop-k-init c = letting_none _ _

pub put_outside-requires-clause-bounded_outside : goal.put_outside-requires-clause-bounded_outside
put_outside-requires-clause-bounded_outside c = (letting_row c.args.run.now c.loop-k.run c.args.channel c.loop-k.j c.loop-k.k c.loop-k.invariant c.requires.bounded (omega arith) _ c.get_outside-o.ensures.result_value).1

pub loop-k-preserved : goal.loop-k-preserved
loop-k-preserved c =
    let h = c.loop-k.invariant in
    let b = c.requires.bounded in
    let l : c.loop-k.k < length (raw_in c.args.run.now).outside = omega arith in
    let r = letting_row c.args.run.now c.loop-k.run c.args.channel c.loop-k.j c.loop-k.k h b l _ c.get_outside-o.ensures.result_value in
    elim c.if-channel-o.branch [
      | then-channel-o w ↦ letting_at _ _ _ _ _ _ _ w.run-is w.j-is (letting_kept _ _ _ _ _ h b l _ _ r.0 (ne_eqb _ _ w.if-channel-o.true) w.put_outside.ensures)
      | else-channel-o w ↦ letting_at _ _ _ _ _ _ _ w.run-is w.j-is (letting_gone _ _ _ _ _ h b l _ r.0 (eq-eqb _ _ w.if-channel-o.false))
    ]

pub returns : goal.returns
returns c =
    let ws = c.args.run.now in
    let e = letting_done ws _ c.args.channel c.loop-k.j c.loop-k.k c.loop-k.invariant c.requires.run_words_in_bounds c.requires.bounded (omega arith) in
    let both = keeps e (bounded_let_go (raw_in ws) c.requires.bounded c.args.channel) in
    record { changed = both.0; still_bounded = both.1 }
