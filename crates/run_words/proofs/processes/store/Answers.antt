use native.Mathlib.Omega.{arith}
use Rattle.run_words.specs.Raw.{raw_in}
use Rattle.run_words.specs.Values.{process_in, held_length}
use Rattle.run_words.specs.Bounds.{keeps, bounded_set}
use Rattle.run_words.proofs.Slices.{stored}
use Rattle.run_words.proofs.processes.store.Goals as goal

pub put-requires-clause-kind_bound : goal.put-requires-clause-kind_bound
put-requires-clause-kind_bound c = let b = c.requires.bounded_process in (b.kind, b.pointer, omega (arith, b.many, held_length c.args.p.held))

pub returns : goal.returns
returns c =
    let both = let ws = c.args.run.now in
    let e = stored ws _ c.args.i _ c.requires.run_words_in_bounds c.requires.bounded c.requires.i_in_bounds c.put.ensures in
    keeps e (bounded_set (raw_in ws) c.requires.bounded c.args.i (process_in c.args.p) c.requires.bounded_process) in record { changed = both.0; still_bounded = both.1 }
