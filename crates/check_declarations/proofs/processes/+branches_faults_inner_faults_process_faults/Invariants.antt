-- The walk over a process, what it has in brackets and its branches.
use Rattle.check_declarations.specs.Lowest.{Walking}
use Rattle.check_declarations.specs.ProcessFaults.{branch_faults}
use Rattle.notation.specs.Sizes.{process_terms}
use Rattle.read_tables.specs.Decode.{process_in}
use Rattle.check_declarations.specs.ProcessFaults.{Following}
use Prim.Native.Nat.{◌+◌, ◌*◌}
use Rattle.notation.specs.Sizes.{process_terms, branches_terms}
use Rattle.read_tables.specs.Roots.{branches_in}
use Rattle.check_declarations.specs.ProcessFaults.{inner_terms}
use Rattle.check_declarations.proofs.processes.+branches_faults_inner_faults_process_faults.Given as goal

abbrev pub decreases-branches_faults : goal.decreases-branches_faults
decreases-branches_faults l = 3 * branches_terms (branches_in l.text.now l.scratch.now l.e l.count) + 1

abbrev pub decreases-inner_faults : goal.decreases-inner_faults
decreases-inner_faults l = 3 * inner_terms l.text.now l.scratch.now l.parts l.n + 2

abbrev pub decreases-process_faults : goal.decreases-process_faults
decreases-process_faults l = 3 * process_terms (process_in l.text.now l.scratch.now l.p)

abbrev pub invariant-branches_faults-loop-k : goal.invariant-branches_faults-loop-k
invariant-branches_faults-loop-k l = Walking (branch_faults l.text l.scratch l.pass l.e) l.initial.l l.count l.k l.l

abbrev pub invariant-process_faults-loop-at : goal.invariant-process_faults-loop-at
invariant-process_faults-loop-at l = Following l.text l.scratch l.pass l.p l.initial.l l.at l.l

abbrev pub decreases-process_faults-loop-at : goal.decreases-process_faults-loop-at
decreases-process_faults-loop-at l = process_terms (process_in l.text l.scratch l.at)
