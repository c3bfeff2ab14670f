use native.Mathlib.Omega.{arith}
use Rattle.run_words.specs.Values.{process_in, held_length}
use Rattle.run_words.specs.Bounds.{keeps, bounded_single}
use Rattle.run_words.proofs.Slices.{begun}
use Rattle.run_words.proofs.places.begin.Goals as goal

pub put-requires-clause-kind_bound : goal.put-requires-clause-kind_bound
put-requires-clause-kind_bound c = let b = c.requires.bounded_process in (b.kind, b.pointer, omega (arith, b.many, held_length c.args.p.held))

pub returns : goal.returns
returns c =
    let both = let e = begun c.args.run.now _ (process_in c.args.p) c.requires.run_words_in_bounds c.put.ensures in
    keeps e (bounded_single (process_in c.args.p) c.requires.bounded_process) in record { changed = both.0; bounded = both.1 }
