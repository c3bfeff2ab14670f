-- The check of a process, from a turn on, of a first half, of a choice and of its branches.
use Prim.Native.Nat.{◌+◌, ◌*◌}
use Rattle.notation.specs.Sizes.{process_terms, branches_terms}
use Rattle.read_tables.specs.Decode.{process_in}
use Rattle.read_tables.specs.Roots.{branches_in}
use Rattle.check_processes.specs.Branches.{CheckedTo}
use Rattle.check_processes.specs.Turns.{Checking, terms_left, turn_terms, half_measure}
use Rattle.check_processes.proofs.process.+check_branches_check_choice_check_half_check_on_check_process.Given as goal

abbrev pub decreases-check_branches : goal.decreases-check_branches
decreases-check_branches l = 8 * branches_terms (branches_in l.text.now l.scratch.now l.d l.k) + 9

abbrev pub decreases-check_choice : goal.decreases-check_choice
decreases-check_choice l = 8 * process_terms (process_in l.text.now l.scratch.now l.p) + 3

abbrev pub decreases-check_half : goal.decreases-check_half
decreases-check_half l = half_measure l.text.now l.scratch.now l.half

abbrev pub decreases-check_on : goal.decreases-check_on
decreases-check_on l = 8 * turn_terms l.text.now l.scratch.now l.first + 7

abbrev pub decreases-check_process : goal.decreases-check_process
decreases-check_process l = 8 * process_terms (process_in l.text.now l.scratch.now l.p) + 8

abbrev pub invariant-check_branches-loop-i : goal.invariant-check_branches-loop-i
invariant-check_branches-loop-i l = CheckedTo l.text l.scratch l.h l.at l.c l.e l.m l.d l.k l.i

abbrev pub invariant-check_on-loop-part : goal.invariant-check_on-loop-part
invariant-check_on-loop-part l = Checking l.text l.scratch l.initial.t l.t

abbrev pub decreases-check_on-loop-part : goal.decreases-check_on-loop-part
decreases-check_on-loop-part l = terms_left l.text l.scratch l.t.rest
