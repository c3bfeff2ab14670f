use native.Mathlib.Omega.{arith}
use mathlib.Core.Path.{sym, ◌∙◌}
use Rattle.run_words.specs.Raw.{raw_in, side_of}
use Rattle.run_words.specs.SliceLaws.{process_at_lem, held_few}
use Rattle.run_words.specs.Near.{nobody_past, held_here}
use Rattle.run_words.proofs.far.holder_at.Goals as goal

pub returns-then-count-i : goal.returns-then-count-i
returns-then-count-i c =
    let a = c.args in
    sym (nobody_past a.channel (side_of a.side) (raw_in a.run.now).processes a.i (omega arith))

pub place_holds-requires-clause-i_bound : goal.place_holds-requires-clause-i_bound
place_holds-requires-clause-i_bound c = held_few c.args.run.now c.args.i c.requires.bounded (omega arith)

pub returns-in_err-k : goal.returns-in_err-k
returns-in_err-k c =
    let a = c.args in
    c.from_residual.ensures ∙ sym (held_here a.channel (side_of a.side) (raw_in a.run.now).processes a.i _ (process_at_lem a.run.now a.i (omega arith)) (sym c.in_err-k.ensures))

pub returns : goal.returns
returns c =
    let a = c.args in
    sym (held_here a.channel (side_of a.side) (raw_in a.run.now).processes a.i _ (process_at_lem a.run.now a.i (omega arith)) (sym c.in_ok-k.ensures))
