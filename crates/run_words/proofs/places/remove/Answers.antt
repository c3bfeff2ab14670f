use native.Mathlib.Omega.{arith}
use Rattle.run_words.specs.Raw.{raw_in}
use Rattle.run_words.specs.Bounds.{keeps, bounded_remove}
use Rattle.run_words.proofs.Shifts.{removed_words}
use Rattle.run_words.proofs.places.remove.Goals as goal

pub returns : goal.returns
returns c =
    let both = let ws = c.args.run.now in
    let n = c.count-n in
    let e = removed_words ws _ n.result c.args.i c.requires.bounded c.requires.run_words_in_bounds n.ensures (omega arith) _ c.relink.ensures
    c.move_down.ensures in
    keeps e (bounded_remove (raw_in ws) c.requires.bounded c.args.i c.requires.i_in_bounds c.requires.unlinked) in record { changed = both.0; still_bounded = both.1 }
