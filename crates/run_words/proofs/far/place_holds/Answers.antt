use native.Mathlib.Omega.{arith}
use mathlib.Core.Path.{refl, sym, ◌∙◌}
use Rattle.run_words.specs.Operations.{held_at}
use Rattle.run_words.proofs.Searches.{there_stops, there_other_side, there_elsewhere, there_ends}
use Rattle.run_words.proofs.far.place_holds.Goals as goal
use Rattle.run_words.proofs.far.place_holds.Goals.{else-channel-e-via-then-channel-e+else-side-e, else-channel-e-via-else-channel-e}

pub loop-k-init : goal.loop-k-init
unfolding held_at
loop-k-init c = refl

pub returns-then-side-e : goal.returns-then-side-e
returns-then-side-e c =
    let run = c.args.run.now in
    let e = c.held_end-e in
    sym (c.loop-k.invariant ∙ there_stops run c.args.i c.loop-k.k e.result e.ensures.k_value e.ensures.side_lt_side_radix.0 c.args.channel c.args.side c.requires.run_words_in_bounds.2 c.if-channel-e.true c.if-side-e.true)

pub loop-k-preserved : goal.loop-k-preserved
loop-k-preserved c =
    let run = c.args.run.now in
    let e = c.held_end-e in
    c.loop-k.invariant ∙ elim c.else-channel-e.branch [
      | else-channel-e-via-then-channel-e+else-side-e w ↦ there_other_side run c.args.i c.loop-k.k e.result e.ensures.k_value e.ensures.side_lt_side_radix.0 c.args.channel c.args.side c.requires.run_words_in_bounds.2 w.if-channel-e.true w.if-side-e.false
      | else-channel-e-via-else-channel-e w ↦ there_elsewhere run c.args.i c.loop-k.k e.result e.ensures.k_value e.ensures.side_lt_side_radix.0 c.args.channel c.args.side c.requires.run_words_in_bounds.2 w.if-channel-e.false
    ]

pub returns : goal.returns
returns c =
    let a = c.args in
    sym (c.loop-k.invariant ∙ there_ends a.channel a.side a.run.now a.i c.loop-k.k (omega arith))
