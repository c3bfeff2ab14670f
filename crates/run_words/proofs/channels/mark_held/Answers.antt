use native.Mathlib.Omega.{arith}
use Prim.Native.Nat.{◌-◌}
use mathlib.Core.Path.{sym, ap, ◌∙◌}
use mathlib.Core.List.{List}
use Rattle.run_words.specs.Raw.{RawEnd}
use Rattle.run_words.specs.Operations.{held_channels}
use Rattle.run_words.proofs.Searches.{held_there, length_there}
use Rattle.run_words.proofs.Marks.{mark, marked_as, drop_none, drop_all, held_turn}
use Rattle.run_words.proofs.channels.mark_held.Goals as goal

pub loop-k-init : goal.loop-k-init
loop-k-init c =
    let a = c.args in
    let n = c.held_count-k in
    λ l m. marked_as _ (ap (λ (d : List RawEnd). held_channels d l)
    (sym (drop_none (held_there a.run.now a.i) n.result (n.ensures ∙ sym (length_there a.run.now a.i))))) m

pub loop-k-preserved : goal.loop-k-preserved
loop-k-preserved c =
    let a = c.args in
    λ l m. marked_as _ (held_turn (held_there a.run.now a.i) (c.loop-k.k - 1) c.loop-k.k c.wide.result l c.held_end-e.ensures.k_value (omega arith) c.wide.ensures.value)
    (mark c.loop-k.marks _ c.wide.result (omega arith) (c.loop-k.invariant l m))

pub returns : goal.returns
returns c =
    let a = c.args in
    λ l m. marked_as _ (ap (λ (d : List RawEnd). held_channels d l) (drop_all (held_there a.run.now a.i) c.loop-k.k (omega arith))) (c.loop-k.invariant l m)
