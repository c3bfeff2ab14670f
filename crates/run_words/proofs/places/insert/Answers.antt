use native.Mathlib.Omega.{arith}
use Rattle.run_words.specs.Raw.{raw_in}
use Rattle.run_words.specs.Values.{process_in, held_length}
use Rattle.run_words.specs.Bounds.{keeps, bounded_insert}
use Rattle.run_words.proofs.Shifts.{inserted_words}
use Rattle.run_words.proofs.places.insert.Goals as goal

pub put-requires-clause-kind_bound : goal.put-requires-clause-kind_bound
put-requires-clause-kind_bound c = let b = c.requires.bounded_process in (b.kind, b.pointer, omega (arith, b.many, held_length c.args.p.held))

pub returns : goal.returns
returns c =
    let both = let count = c.count-n in
    let run = c.args.run.now in
    let e = inserted_words run _ count.result c.args.i c.requires.bounded c.requires.run_words_in_bounds count.ensures (omega arith) _ _ _ (omega arith) c.relink.ensures
    c.move_up.ensures c.put.ensures in
    keeps e (bounded_insert (raw_in run) c.requires.bounded c.args.i (process_in c.args.p) c.requires.i_in_bounds.1 c.requires.bounded_process) in record { changed = both.0; still_bounded = both.1 }
