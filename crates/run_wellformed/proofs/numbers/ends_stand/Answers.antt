use native.Mathlib.Omega.{arith}
use Rattle.run_words.proofs.Decisions.{so_far, whole, refused_at_lem}
use Rattle.run_wellformed.specs.OfText.{EndOf}
use Rattle.run_words.specs.Values.{held_in, held_length}
use Rattle.run_wellformed.proofs.numbers.ends_stand.Goals as goal

pub returns-then-nodes-wide : goal.returns-then-nodes-wide
returns-then-nodes-wide c =
    refused_at_lem (EndOf c.args.scratch.now) (held_in c.args.h) c.loop-k.k c.end_at-e.ensures.k_value
    (λ b. omega arith)

pub loop-k-preserved : goal.loop-k-preserved
loop-k-preserved c =
    let loop = c.loop-k in
    so_far (EndOf c.args.scratch.now) (held_in c.args.h) loop.k loop.invariant c.end_at-e.ensures.k_value
    (omega arith)

pub returns : goal.returns
returns c = whole (EndOf c.args.scratch.now) (held_in c.args.h) c.loop-k.k (omega (arith, held_length c.args.h)) c.loop-k.invariant
