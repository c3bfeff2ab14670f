use native.Mathlib.Omega.{arith}
use mathlib.Core.Path.{refl, sym, ◌∙◌}
use Rattle.run_words.specs.Raw.{raw_in, side_of}
use Rattle.run_words.specs.SliceLaws.{process_at_lem, held_few}
use Rattle.run_words.specs.Operations.{holder_of}
use Rattle.run_words.proofs.Searches.{holder_turn}
use Rattle.run_words.proofs.far.holder.Goals as goal

pub loop-i-init : goal.loop-i-init
unfolding holder_of
loop-i-init c = refl

pub place_holds-requires-clause-i_bound : goal.place_holds-requires-clause-i_bound
place_holds-requires-clause-i_bound c = held_few c.args.run.now c.loop-i.i c.requires.bounded (omega arith)

pub returns-in-Some : goal.returns-in-Some
returns-in-Some c =
    let a = c.args in
    sym (c.loop-i.invariant ∙ holder_turn a.channel (side_of a.side) (raw_in a.run.now).processes c.loop-i.i _ (process_at_lem a.run.now c.loop-i.i (omega arith)) (sym c.in-Some.ensures))

pub loop-i-preserved : goal.loop-i-preserved
loop-i-preserved c =
    let a = c.args in
    c.loop-i.invariant ∙ holder_turn a.channel (side_of a.side) (raw_in a.run.now).processes c.loop-i.i _ (process_at_lem a.run.now c.loop-i.i (omega arith)) (sym c.in_default.ensures)
