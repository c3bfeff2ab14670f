use Rattle.run_words.specs.Raw.{raw_in}
use Rattle.run_words.specs.Values.{outside_in}
use Rattle.run_words.specs.Bounds.{keeps, bounded_set_outside}
use Rattle.run_words.proofs.Outsides.{outside_set}
use Rattle.run_words.proofs.outside.set_outside.Goals as goal

pub returns : goal.returns
returns c =
    let both = let ws = c.args.run.now in
    let e = outside_set ws _ c.args.k _ c.requires.bounded c.put_outside.ensures c.requires.k_in_bounds in
    keeps e (bounded_set_outside (raw_in ws) c.requires.bounded c.args.k (outside_in c.args.o) c.requires.bounded_outside) in record { changed = both.0; still_bounded = both.1 }
