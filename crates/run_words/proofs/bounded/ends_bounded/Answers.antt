use native.Mathlib.Omega.{arith}
use Rattle.run_words.specs.Raw.{BoundedEnd}
use Rattle.run_words.specs.Values.{held_in, held_length}
use Rattle.run_words.proofs.Decisions.{so_far, whole, refused_at_lem}
use Rattle.run_words.proofs.bounded.ends_bounded.Goals as goal

pub returns-then-e-ge-TEXT : goal.returns-then-e-ge-TEXT
returns-then-e-ge-TEXT c =
    refused_at_lem BoundedEnd (held_in c.args.h) c.loop-k.k c.end_at-e.ensures.k_value
    (λ b. omega (arith, b.name, b.node))

pub loop-k-preserved : goal.loop-k-preserved
loop-k-preserved c =
    let b = c.loop-k in
    so_far BoundedEnd (held_in c.args.h) b.k b.invariant c.end_at-e.ensures.k_value (record { name = omega arith; node = omega arith; channel = c.end_at-e.ensures.side_lt_side_radix.1 })

pub returns : goal.returns
returns c =
    let h = c.args.h in
    let b = c.loop-k in
    whole BoundedEnd (held_in h) b.k (omega (arith, held_length h)) b.invariant
