use Rattle.interpreter.specs.Listing.{listing_start}
use Rattle.interpreter.specs.Reporting.{numbered_on, numbered_end}
use Rattle.notation.specs.Limits.{outside_numbers}
use Rattle.run_words.specs.Raw.{raw_in}
use native.Mathlib.Omega.{arith}
use mathlib.Core.Path.{refl}
use Rattle.interpreter.proofs.reports.list_numbers.Goals as goal

pub loop-k-init : goal.loop-k-init
loop-k-init c = listing_start outside_numbers _

pub loop-k-preserved : goal.loop-k-preserved
loop-k-preserved c =
    numbered_on (raw_in c.args.run.now) c.loop-k.invariant (omega (arith, c.outside_count-n.ensures)) c.requires.1.channels c.outside_at-o.ensures.k_value refl

pub returns : goal.returns
returns c =
    numbered_end (raw_in c.args.run.now) c.loop-k.invariant (omega (arith, c.outside_count-n.ensures)) (omega (arith, c.outside_count-n.ensures))
