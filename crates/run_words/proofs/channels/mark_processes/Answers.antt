use native.Mathlib.Omega.{arith}
use Prim.Native.Nat.{◌-◌}
use mathlib.Core.Path.{ap}
use mathlib.Core.List.{List}
use Rattle.run_words.specs.Raw.{RawProcess, raw_in}
use Rattle.run_words.specs.SliceLaws.{process_at_lem, held_few}
use Rattle.run_words.specs.Operations.{process_channels}
use Rattle.run_words.proofs.Marks.{marked_as, drop_all, process_turn}
use Rattle.run_words.proofs.channels.mark_processes.Goals as goal

pub mark_held-requires-clause-i_bound : goal.mark_held-requires-clause-i_bound
mark_held-requires-clause-i_bound c = held_few c.args.run.now (c.loop-i.i - 1) c.requires.bounded (omega arith)

pub loop-i-preserved : goal.loop-i-preserved
loop-i-preserved c =
    let a = c.args in
    λ l m. marked_as _ (process_turn (raw_in a.run.now).processes (c.loop-i.i - 1) c.loop-i.i l (process_at_lem a.run.now (c.loop-i.i - 1) (omega arith)) (omega arith))
    (c.mark_held.ensures _ (c.loop-i.invariant l m))

pub returns : goal.returns
returns c =
    let a = c.args in
    λ l m. marked_as _ (ap (λ (d : List RawProcess). process_channels d l) (drop_all (raw_in a.run.now).processes c.loop-i.i (omega arith))) (c.loop-i.invariant l m)
