use native.Mathlib.Omega.{arith}
use Rattle.run_words.specs.Raw.{raw_in}
use Rattle.run_words.specs.Values.{outside_in}
use Rattle.run_words.specs.Bounds.{keeps, bounded_append}
use Rattle.run_words.proofs.Outsides.{outside_append}
use Rattle.run_words.proofs.outside.append_outside.Goals as goal

pub returns : goal.returns
returns c =
    let both = let ws = c.args.run.now in
    let n = c.outside_count-n in
    let e = outside_append ws _ n.result _ c.requires.bounded c.put_outside.ensures c.requires.run_words_in_bounds n.ensures (omega arith) in
    keeps e (bounded_append (raw_in ws) c.requires.bounded (outside_in c.args.o) c.requires.run_len_bound c.requires.bounded_outside) in record { changed = both.0; still_bounded = both.1 }
