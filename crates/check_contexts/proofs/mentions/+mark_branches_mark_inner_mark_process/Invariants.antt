-- The walk over a process, what it has in brackets and its branches, for the names that are held.
use Rattle.check_contexts.specs.Mentioned.{Branched}
use Rattle.notation.specs.Sizes.{process_terms}
use Rattle.read_tables.specs.Decode.{process_in}
use Rattle.check_contexts.specs.Mentioned.{Walked}
use Prim.Native.Nat.{◌+◌, ◌*◌}
use Rattle.notation.specs.Sizes.{process_terms, branches_terms}
use Rattle.read_tables.specs.Roots.{branches_in}
use Rattle.check_contexts.specs.Mentioned.{inner_terms}
use Rattle.check_contexts.proofs.mentions.+mark_branches_mark_inner_mark_process.Given as goal

abbrev pub decreases-mark_branches : goal.decreases-mark_branches
decreases-mark_branches l = 3 * branches_terms (branches_in l.text.now l.scratch.now l.e l.count) + 1

abbrev pub decreases-mark_inner : goal.decreases-mark_inner
decreases-mark_inner l = 3 * inner_terms l.text.now l.scratch.now l.node + 2

abbrev pub decreases-mark_process : goal.decreases-mark_process
decreases-mark_process l = 3 * process_terms (process_in l.text.now l.scratch.now l.p)

abbrev pub invariant-mark_branches-loop-k : goal.invariant-mark_branches-loop-k
invariant-mark_branches-loop-k l = Branched l.text l.scratch l.ends l.n l.e l.count l.sought l.initial.r l.k l.r

abbrev pub invariant-mark_process-loop-at : goal.invariant-mark_process-loop-at
invariant-mark_process-loop-at l = Walked l.text l.scratch l.ends l.n l.p l.initial.left l.initial.r l.at l.left l.r

abbrev pub decreases-mark_process-loop-at : goal.decreases-mark_process-loop-at
decreases-mark_process-loop-at l = process_terms (process_in l.text l.scratch l.at)
