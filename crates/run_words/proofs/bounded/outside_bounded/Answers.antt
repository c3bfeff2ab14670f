use native.Mathlib.Omega.{arith}
use Rattle.run_words.specs.Raw.{raw_in, BoundedOutside}
use Rattle.run_words.proofs.Outsides.{outside_is}
use Rattle.run_words.proofs.Decisions.{so_far, refused_at_lem}
use Rattle.run_words.proofs.bounded.outside_bounded.Goals as goal

pub returns-then-o-ge-OUTSIDE_NUMBERS : goal.returns-then-o-ge-OUTSIDE_NUMBERS
returns-then-o-ge-OUTSIDE_NUMBERS c =
    let ws = c.args.run.now in
    let k = c.loop-k.k in
    refused_at_lem BoundedOutside (raw_in ws).outside k (outside_is ws k _ (omega arith) c.get_outside-o.ensures.result_value) (λ b. omega (arith, b.number, b.node))

pub loop-k-preserved : goal.loop-k-preserved
loop-k-preserved c =
    let ws = c.args.run.now in
    let k = c.loop-k.k in
    so_far BoundedOutside (raw_in ws).outside k c.loop-k.invariant (outside_is ws k _ (omega arith) c.get_outside-o.ensures.result_value)
    (record { number = omega arith; node = omega arith; channel = c.get_outside-o.ensures.channel_lt_channel_places })
