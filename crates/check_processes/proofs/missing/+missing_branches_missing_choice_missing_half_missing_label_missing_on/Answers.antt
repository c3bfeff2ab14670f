use mathlib.Core.Path.{refl, subst, ◌∙◌, sym, ap}
use native.Mathlib.Omega.{arith}
use Rattle.read_tables.specs.Access.{node_there}
use Rattle.check_types.specs.Sought.{sought_as, sought_none}
use Rattle.check_contexts.specs.Branches.{left_here, left_first, left_terms}
use Rattle.check_contexts.specs.Halves.{held_bounded}
use Rattle.check_contexts.specs.Held.{Retypes}
use Rattle.check_processes.specs.Missing.{sought_broken, inside_begin, inside_end, inside_unlabelled, inside_fine, inside_found, inside_on, never_refused, choice_inside, choice_own, choice_on, seek_begin, seek_half, seek_found, seek_next, seek_choice, seek_choice_fine, seek_done}
use Rattle.check_processes.specs.Nodes.{choose_at}
use Rattle.check_processes.specs.Turns.{HalfIn, half_measure, half_missing, half_verdict_is, half_missing_is, half_falls, choice_falls, check_less, rest_there, turned_verdict, turned_missing}
use Rattle.check_processes.proofs.missing.+missing_branches_missing_choice_missing_half_missing_label_missing_on.Goals as goal

pub missing_branches-loop-i-init : goal.missing_branches-loop-i-init
missing_branches-loop-i-init t c = inside_begin _ c.requires.tables.3 c.requires.branches_fine

pub missing_branches-overflow_sub-d : goal.missing_branches-overflow_sub-d
missing_branches-overflow_sub-d t c = omega (arith, (left_here c.loop-i.invariant.checks.left (omega arith) c.requires.tables.0).0)

pub missing_branches-branch-b-requires : goal.missing_branches-branch-b-requires
missing_branches-branch-b-requires t c = let b = left_here c.loop-i.invariant.checks.left (omega arith) c.requires.tables.0 in (c.requires.tables.0.area, b.0, b.1)

pub missing_branches-labelled-requires : goal.missing_branches-labelled-requires
missing_branches-labelled-requires t c = (c.requires.tables.0, c.requires.tables.2)

pub missing_branches-returns-in_default : goal.missing_branches-returns-in_default
missing_branches-returns-in_default t c = absurd (inside_unlabelled c.loop-i.invariant (omega arith) c.branch-b.ensures c.in_default.ensures)

pub missing_branches-narrow-requires : goal.missing_branches-narrow-requires
missing_branches-narrow-requires t c = omega (arith, node_there _ _ c.requires.tables.0 _ (c.in-Some.ensures.type _ refl))

pub missing_branches-retype_end-held-requires-clause-count_le_held_limit : goal.missing_branches-retype_end-held-requires-clause-count_le_held_limit
missing_branches-retype_end-held-requires-clause-count_le_held_limit t c = (c.requires.tables.1.many, omega (arith, node_there _ _ c.requires.tables.0 _ (c.in-Some.ensures.type _ refl), c.narrow.ensures))

pub missing_branches-retype_end-held-requires-clause-all : goal.missing_branches-retype_end-held-requires-clause-all
missing_branches-retype_end-held-requires-clause-all t c = held_bounded c.requires.tables.1

pub missing_branches-missing_label-requires : goal.missing_branches-missing_label-requires
missing_branches-missing_label-requires t c =
    let e = c.args in
    let inside = c.loop-i.invariant in
    let o = c.branch-b.ensures in
    let retypes = subst (λ j. Retypes e.text.now e.h e.c j c.retype_end-held.result) c.narrow.ensures c.retype_end-held.ensures in (
      omega (arith, c.decreases, left_terms inside.checks.left (omega arith) o),
      (
        c.requires.tables.0,
        retypes.fits _ (c.in-Some.ensures.type _ refl) c.requires.tables.1,
        (left_first inside.checks.left (omega arith) o).process,
        inside_fine inside (omega arith) o c.in-Some.ensures retypes,
      ),
    )

pub missing_branches-returns-in_err-left : goal.missing_branches-returns-in_err-left
missing_branches-returns-in_err-left t c =
    let e = c.args in
    let retypes = subst (λ j. Retypes e.text.now e.h e.c j c.retype_end-held.result) c.narrow.ensures c.retype_end-held.ensures in
    sought_broken _ c.from_residual.ensures (inside_found c.loop-i.invariant (omega arith) c.branch-b.ensures c.in-Some.ensures retypes c.in_err-left.field-0.0 c.in_err-left.ensures)

pub missing_branches-loop-i-preserved : goal.missing_branches-loop-i-preserved
missing_branches-loop-i-preserved t c =
    let e = c.args in
    let retypes = subst (λ j. Retypes e.text.now e.h e.c j c.retype_end-held.result) c.narrow.ensures c.retype_end-held.ensures in
    inside_on c.loop-i.invariant (omega arith) c.branch-b.ensures c.in-Some.ensures retypes c.in_ok-left.ensures _ refl

pub missing_branches-returns : goal.missing_branches-returns
missing_branches-returns t c = inside_end c.loop-i.invariant (omega arith)

pub missing_choice-labels_offered-requires : goal.missing_choice-labels_offered-requires
missing_choice-labels_offered-requires t c = (c.requires.0, c.requires.1, (choose_at _ _ _ _ c.requires.2 c.requires.3).1)

pub missing_choice-returns-in_default : goal.missing_choice-returns-in_default
missing_choice-returns-in_default t c = absurd (never_refused c.requires.2 c.requires.3 c.requires.4 c.in_default.ensures)

pub missing_choice-left_out-requires : goal.missing_choice-left_out-requires
missing_choice-left_out-requires t c = (c.requires.0, c.in-Ok.ensures.labels, (choose_at _ _ _ _ c.requires.2 c.requires.3).1)

pub missing_choice-returns-in-Break : goal.missing_choice-returns-in-Break
missing_choice-returns-in-Break t c = choice_own c.requires.2 c.requires.3 c.requires.4 c.in-Ok.ensures c.in-Break.label c.in-Break.ensures

pub missing_choice-missing_branches-requires : goal.missing_choice-missing_branches-requires
missing_choice-missing_branches-requires t c =
    let chooses = choose_at _ _ _ _ c.requires.2 c.requires.3 in
    (omega (arith, c.decreases, chooses.0), ((c.requires.0, c.requires.1, c.in-Ok.ensures.labels, chooses.1), choice_inside c.requires.2 c.requires.3 c.requires.4 c.in-Ok.ensures))

pub missing_choice-returns-in-Continue : goal.missing_choice-returns-in-Continue
missing_choice-returns-in-Continue t c = choice_on c.requires.2 c.requires.3 c.requires.4 c.in-Ok.ensures c.in-Continue.ensures c.missing_branches.ensures

pub missing_half-missing_label-requires : goal.missing_half-missing_label-requires
missing_half-missing_label-requires t c =
    let there = subst (HalfIn c.args.text.now c.args.scratch.now) c.in-Some.is c.requires.1 in (
      omega (arith, c.decreases, ap (half_measure c.args.text.now c.args.scratch.now) c.in-Some.is),
      (c.requires.0, there.held, there.process, sym (half_verdict_is _ _ c.in-Some.is) ∙ c.requires.2),
    )

pub missing_half-returns-in-Some : goal.missing_half-returns-in-Some
missing_half-returns-in-Some t c =
    sought_as (sym (half_missing_is _ _ c.in-Some.is (sym (half_verdict_is _ _ c.in-Some.is) ∙ c.requires.2))) c.missing_label.ensures

pub missing_half-returns-in-None : goal.missing_half-returns-in-None
missing_half-returns-in-None t c = sought_as (ap (half_missing c.args.text.now c.args.scratch.now) (sym c.in-None.is)) (sought_none c.args.k)

pub missing_label-check_turn-t-requires : goal.missing_label-check_turn-t-requires
missing_label-check_turn-t-requires t c = (c.requires.0, c.requires.1, c.requires.2)

pub missing_label-missing_on-requires : goal.missing_label-missing_on-requires
missing_label-missing_on-requires t c =
    let turned = c.check_turn-t.ensures in
    (omega (arith, c.decreases, turned.fewer), (c.requires.0, turned.stands, turned_verdict turned ∙ c.requires.3))

pub missing_label-returns : goal.missing_label-returns
missing_label-returns t c = sought_as (turned_missing c.check_turn-t.ensures c.requires.3) c.missing_on.ensures

pub missing_on-loop-left-init : goal.missing_on-loop-left-init
missing_on-loop-left-init t c = seek_begin _ c.requires.1 c.requires.2

pub missing_on-missing_half-requires : goal.missing_on-missing_half-requires
missing_on-missing_half-requires t c =
    let loop = c.loop-left in
    (half_falls _ _ c.args.first loop.t loop.invariant.checks.fewer c.decreases, (c.requires.0, loop.invariant.checks.stands.half, seek_half loop.invariant))

pub missing_on-returns-in_err-left : goal.missing_on-returns-in_err-left
missing_on-returns-in_err-left t c = sought_broken _ c.from_residual.ensures (seek_found c.loop-left.invariant c.in_err-left.field-0.0 c.in_err-left.ensures)

pub missing_on-check_turn-t-requires : goal.missing_on-check_turn-t-requires
missing_on-check_turn-t-requires t c = let there = rest_there c.loop-left.invariant.checks c.in-On.is in (c.requires.0, there.held, there.process)

pub missing_on-loop-left-smaller : goal.missing_on-loop-left-smaller
missing_on-loop-left-smaller t c = check_less c.in-On.is c.check_turn-t.ensures

pub missing_on-loop-left-preserved : goal.missing_on-loop-left-preserved
missing_on-loop-left-preserved t c = seek_next c.loop-left.invariant c.in_ok-left.ensures c.in-On.is c.check_turn-t.ensures

pub missing_on-missing_choice-requires : goal.missing_on-missing_choice-requires
missing_on-missing_choice-requires t c =
    let loop = c.loop-left in
    let there = rest_there loop.invariant.checks c.in-Choice.is in (
      omega (arith, c.decreases, choice_falls _ _ c.args.first loop.t loop.invariant.checks.fewer c.in-Choice.is),
      (c.requires.0, there.held, there.node, there.kind, seek_choice_fine loop.invariant c.in-Choice.is),
    )

pub missing_on-returns-in-Choice : goal.missing_on-returns-in-Choice
missing_on-returns-in-Choice t c =
    let loop = c.loop-left in
    seek_choice loop.invariant c.in_ok-left.ensures c.in-Choice.is (seek_choice_fine loop.invariant c.in-Choice.is) c.missing_choice.ensures

pub missing_on-returns-in-Done : goal.missing_on-returns-in-Done
missing_on-returns-in-Done t c = seek_done c.loop-left.invariant c.in_ok-left.ensures c.in-Done.is
