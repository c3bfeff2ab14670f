use mathlib.Core.Path.{refl, subst, ◌∙◌, sym, ap}
use native.Mathlib.Omega.{arith}
use Rattle.read_tables.specs.Access.{node_there}
use Rattle.check_contexts.specs.Branches.{left_here, left_first, left_terms}
use Rattle.check_contexts.specs.Halves.{held_bounded}
use Rattle.check_contexts.specs.Held.{Retypes}
use Rattle.check_processes.specs.Branches.{branches_begin, branch_unlabelled, branch_refused, branch_fine, branches_fine, choice_refused, choice_branches}
use Rattle.check_processes.specs.Nodes.{choose_at}
use Rattle.check_processes.specs.Turns.{HalfIn, half_measure, half_verdict, half_verdict_is, half_falls, choice_falls, check_begin, check_next, check_less, half_refused, rest_there, choice_is, check_done, turned_verdict}
use Rattle.check_processes.proofs.process.+check_branches_check_choice_check_half_check_on_check_process.Goals as goal

pub check_branches-loop-i-init : goal.check_branches-loop-i-init
check_branches-loop-i-init t c = branches_begin c.requires.3

pub check_branches-overflow_sub-d : goal.check_branches-overflow_sub-d
check_branches-overflow_sub-d t c = omega (arith, (left_here c.loop-i.invariant.left (omega arith) c.requires.0).0)

pub check_branches-branch-b-requires : goal.check_branches-branch-b-requires
check_branches-branch-b-requires t c = let b = left_here c.loop-i.invariant.left (omega arith) c.requires.0 in (c.requires.0.area, b.0, b.1)

pub check_branches-labelled-requires : goal.check_branches-labelled-requires
check_branches-labelled-requires t c = (c.requires.0, c.requires.2)

pub check_branches-returns-in_default : goal.check_branches-returns-in_default
check_branches-returns-in_default t c = branch_unlabelled c.loop-i.invariant (omega arith) c.branch-b.ensures c.in_default.ensures

pub check_branches-narrow-requires : goal.check_branches-narrow-requires
check_branches-narrow-requires t c = omega (arith, node_there _ _ c.requires.0 _ (c.in-Some.ensures.type _ refl))

pub check_branches-retype_end-held-requires-clause-count_le_held_limit : goal.check_branches-retype_end-held-requires-clause-count_le_held_limit
check_branches-retype_end-held-requires-clause-count_le_held_limit t c = (c.requires.1.many, omega (arith, node_there _ _ c.requires.0 _ (c.in-Some.ensures.type _ refl), c.narrow.ensures))

pub check_branches-retype_end-held-requires-clause-all : goal.check_branches-retype_end-held-requires-clause-all
check_branches-retype_end-held-requires-clause-all t c = held_bounded c.requires.1

pub check_branches-check_process-requires : goal.check_branches-check_process-requires
check_branches-check_process-requires t c =
    let e = c.args in
    let left = c.loop-i.invariant.left in
    let o = c.branch-b.ensures in
    let retypes = subst (λ j. Retypes e.text.now e.h e.c j c.retype_end-held.result) c.narrow.ensures c.retype_end-held.ensures in (
      omega (arith, c.decreases, left_terms left (omega arith) o),
      (c.requires.0, retypes.fits _ (c.in-Some.ensures.type _ refl) c.requires.1, (left_first left (omega arith) o).process),
    )

pub check_branches-returns-in_err-check_process : goal.check_branches-returns-in_err-check_process
check_branches-returns-in_err-check_process t c =
    let e = c.args in
    let retypes = subst (λ j. Retypes e.text.now e.h e.c j c.retype_end-held.result) c.narrow.ensures c.retype_end-held.ensures in
    branch_refused c.loop-i.invariant (omega arith) c.branch-b.ensures c.in-Some.ensures retypes _ c.from_residual.ensures.1 c.in_err-check_process.ensures

pub check_branches-loop-i-preserved : goal.check_branches-loop-i-preserved
check_branches-loop-i-preserved t c =
    let e = c.args in
    let retypes = subst (λ j. Retypes e.text.now e.h e.c j c.retype_end-held.result) c.narrow.ensures c.retype_end-held.ensures in
    branch_fine c.loop-i.invariant (omega arith) c.branch-b.ensures c.in-Some.ensures retypes c.in_ok-check_process.ensures _ refl

pub check_branches-returns : goal.check_branches-returns
check_branches-returns t c = branches_fine c.loop-i.invariant (omega arith)

pub check_choice-labels_offered-requires : goal.check_choice-labels_offered-requires
check_choice-labels_offered-requires t c = (c.requires.0, c.requires.1, (choose_at _ _ _ _ c.requires.2 c.requires.3).1)

pub check_choice-returns-in-Err : goal.check_choice-returns-in-Err
check_choice-returns-in-Err t c = choice_refused c.requires.2 c.requires.3 c.in-Err.ensures

pub check_choice-check_branches-requires : goal.check_choice-check_branches-requires
check_choice-check_branches-requires t c =
    let chooses = choose_at _ _ _ _ c.requires.2 c.requires.3 in
    (omega (arith, c.decreases, chooses.0), (c.requires.0, c.requires.1, c.in-Ok.ensures.labels, chooses.1))

pub check_choice-returns-in-Ok : goal.check_choice-returns-in-Ok
check_choice-returns-in-Ok t c = c.check_branches.ensures ∙ choice_branches c.requires.2 c.requires.3 c.in-Ok.ensures

pub check_half-check_process-requires : goal.check_half-check_process-requires
check_half-check_process-requires t c =
    let there = subst (HalfIn c.args.text.now c.args.scratch.now) c.in-Some.is c.requires.1 in
    (omega (arith, c.decreases, ap (half_measure c.args.text.now c.args.scratch.now) c.in-Some.is), (c.requires.0, there.held, there.process))

pub check_half-returns-in-Some : goal.check_half-returns-in-Some
check_half-returns-in-Some t c = c.check_process.ensures ∙ sym (half_verdict_is _ _ c.in-Some.is)

pub check_half-returns-in-None : goal.check_half-returns-in-None
check_half-returns-in-None t c = ap (half_verdict c.args.text.now c.args.scratch.now) (sym c.in-None.is)

pub check_on-loop-part-init : goal.check_on-loop-part-init
check_on-loop-part-init t c = check_begin c.requires.1

pub check_on-check_half-requires : goal.check_on-check_half-requires
check_on-check_half-requires t c =
    let loop = c.loop-part in
    (half_falls _ _ c.args.first loop.t loop.invariant.fewer c.decreases, (c.requires.0, loop.invariant.stands.half))

pub check_on-returns-in_err-check_half : goal.check_on-returns-in_err-check_half
check_on-returns-in_err-check_half t c = half_refused c.loop-part.invariant _ c.from_residual.ensures.1 c.in_err-check_half.ensures

pub check_on-check_turn-t-requires : goal.check_on-check_turn-t-requires
check_on-check_turn-t-requires t c = let there = rest_there c.loop-part.invariant c.in-On.is in (c.requires.0, there.held, there.process)

pub check_on-loop-part-smaller : goal.check_on-loop-part-smaller
check_on-loop-part-smaller t c = check_less c.in-On.is c.check_turn-t.ensures

pub check_on-loop-part-preserved : goal.check_on-loop-part-preserved
check_on-loop-part-preserved t c = check_next c.loop-part.invariant c.in_ok-check_half.ensures c.in-On.is c.check_turn-t.ensures

pub check_on-check_choice-requires : goal.check_on-check_choice-requires
check_on-check_choice-requires t c =
    let loop = c.loop-part in
    let there = rest_there loop.invariant c.in-Choice.is in
    (omega (arith, c.decreases, choice_falls _ _ c.args.first loop.t loop.invariant.fewer c.in-Choice.is), (c.requires.0, there.held, there.node, there.kind))

pub check_on-returns-in-Choice : goal.check_on-returns-in-Choice
check_on-returns-in-Choice t c = c.check_choice.ensures ∙ choice_is c.loop-part.invariant c.in_ok-check_half.ensures c.in-Choice.is

pub check_on-returns-in-Done : goal.check_on-returns-in-Done
check_on-returns-in-Done t c = check_done c.loop-part.invariant c.in_ok-check_half.ensures c.in-Done.is

pub check_process-check_turn-t-requires : goal.check_process-check_turn-t-requires
check_process-check_turn-t-requires t c = (c.requires.0, c.requires.1, c.requires.2)

pub check_process-check_on-requires : goal.check_process-check_on-requires
check_process-check_on-requires t c = let turned = c.check_turn-t.ensures in (omega (arith, c.decreases, turned.fewer), (c.requires.0, turned.stands))

pub check_process-returns : goal.check_process-returns
check_process-returns t c = c.check_on.ensures ∙ turned_verdict c.check_turn-t.ensures
