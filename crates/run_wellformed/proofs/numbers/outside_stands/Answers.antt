use native.Mathlib.Omega.{arith}
use Rattle.run_words.proofs.Decisions.{so_far, refused_at_lem}
use Rattle.run_wellformed.specs.OfText.{OutsideOf}
use Rattle.run_words.specs.Raw.{raw_in}
use Rattle.run_wellformed.proofs.numbers.outside_stands.Goals as goal

pub returns-then-nodes-wide : goal.returns-then-nodes-wide
returns-then-nodes-wide c =
    refused_at_lem (OutsideOf c.args.scratch.now) (raw_in c.args.run.now).outside c.loop-k.k c.outside_at-o.ensures.k_value
    (λ b. omega arith)

pub loop-k-preserved : goal.loop-k-preserved
loop-k-preserved c =
    let loop = c.loop-k in
    so_far (OutsideOf c.args.scratch.now) (raw_in c.args.run.now).outside loop.k loop.invariant c.outside_at-o.ensures.k_value
    (omega arith)
