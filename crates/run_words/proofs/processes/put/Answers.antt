use native.Mathlib.Omega.{arith}
use mathlib.Core.Path.{ap}
use lib.ListN.{get_or}
use Rattle.run_words.specs.Values.{held_in}
use Rattle.run_words.proofs.Rows.{moved_as}
use Rattle.run_words.proofs.Slices.{written}
use Rattle.run_words.proofs.processes.put.Goals as goal

pub returns : goal.returns
unfolding held_in
returns c =
    let a = c.args in
    written a.run.now a.at a.p.kind a.p.pointer a.p.link a.p.held.count a.p.held.words _ (omega arith) (omega arith) (omega arith)
    (moved_as _ _ _ _ _ _ (λ k. ap (λ m. get_or a.p.held.words m 0) (omega arith)) c.copy_words.ensures)
