use Rattle.interpreter.specs.Listing.{listing_start}
use Rattle.interpreter.specs.Surveying.{surveyed_on, surveyed_end}
use Rattle.notation.specs.Limits.{process_places}
use native.Mathlib.Omega.{arith}
use Rattle.interpreter.proofs.places.list_steps.Goals as goal

pub loop-k-init : goal.loop-k-init
loop-k-init c = listing_start process_places _

pub loop-k-preserved : goal.loop-k-preserved
loop-k-preserved c =
    surveyed_on c.args.text.now c.args.tables.now c.args.run.now c.loop-k.invariant (omega (arith, c.count-n.ensures)) c.requires.run_of.bounds.places
    c.openness_at.ensures

pub returns : goal.returns
returns c =
    surveyed_end c.args.text.now c.args.tables.now c.args.run.now c.loop-k.invariant (omega (arith, c.count-n.ensures)) (omega (arith, c.count-n.ensures))
