-- The missing label of a number: of a process, from a turn on, of a first half, of a choice and of its branches.
use Prim.Native.Nat.{◌+◌, ◌*◌}
use Rattle.notation.specs.Sizes.{process_terms, branches_terms}
use Rattle.read_tables.specs.Decode.{process_in}
use Rattle.read_tables.specs.Roots.{branches_in}
use Rattle.check_processes.specs.Missing.{Inside, Seeking}
use Rattle.check_processes.specs.Turns.{terms_left, turn_terms, half_measure}
use Rattle.check_processes.proofs.missing.+missing_branches_missing_choice_missing_half_missing_label_missing_on.Given as goal

abbrev pub decreases-missing_branches : goal.decreases-missing_branches
decreases-missing_branches l = 8 * branches_terms (branches_in l.text.now l.scratch.now l.d l.n) + 9

abbrev pub decreases-missing_choice : goal.decreases-missing_choice
decreases-missing_choice l = 8 * process_terms (process_in l.text.now l.scratch.now l.p) + 3

abbrev pub decreases-missing_half : goal.decreases-missing_half
decreases-missing_half l = half_measure l.text.now l.scratch.now l.half

abbrev pub decreases-missing_on : goal.decreases-missing_on
decreases-missing_on l = 8 * turn_terms l.text.now l.scratch.now l.first + 7

abbrev pub decreases-missing_label : goal.decreases-missing_label
decreases-missing_label l = 8 * process_terms (process_in l.text.now l.scratch.now l.p) + 8

abbrev pub invariant-missing_branches-loop-i : goal.invariant-missing_branches-loop-i
invariant-missing_branches-loop-i l = Inside l.text l.scratch l.h l.c l.e l.m l.d l.n l.k l.i l.left

abbrev pub invariant-missing_on-loop-left : goal.invariant-missing_on-loop-left
invariant-missing_on-loop-left l = Seeking l.text l.scratch l.initial.t l.k l.t l.left

abbrev pub decreases-missing_on-loop-left : goal.decreases-missing_on-loop-left
decreases-missing_on-loop-left l = terms_left l.text l.scratch l.t.rest
