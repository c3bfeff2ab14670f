use native.Mathlib.Omega.{arith}
use mathlib.Core.Path.{refl}
use Rattle.check_contexts.specs.Branches.{left_here, left_first, left_terms}
use Rattle.check_contexts.specs.Mentioned.{branches_begin, branch_turn, branches_done}
use mathlib.Core.Path.{sym, ◌∙◌}
use Rattle.check_contexts.specs.Mentioned.{branches_terms_lem, half_terms, inner_branches, inner_half, inner_none}
use mathlib.Core.Path.{ap}
use Rattle.notation.specs.Sizes.{process_terms}
use Rattle.read_tables.specs.Decode.{process_in}
use Rattle.check_contexts.specs.Mentioned.{walk_begin, walk_turn, walk_done, node_mentions}
use Rattle.notation.specs.Sizes.{process_terms}
use Rattle.check_contexts.proofs.mentions.+mark_branches_mark_inner_mark_process.Goals as goal

pub mark_branches-loop-k-init : goal.mark_branches-loop-k-init
mark_branches-loop-k-init t c = branches_begin c.requires.2

pub mark_branches-overflow_sub-e : goal.mark_branches-overflow_sub-e
mark_branches-overflow_sub-e t c =
    let b = left_here c.loop-k.invariant.left c.loop-k-test.true c.requires.0 in
    omega (arith, b.0)

pub mark_branches-branch-b-requires : goal.mark_branches-branch-b-requires
mark_branches-branch-b-requires t c =
    let b = left_here c.loop-k.invariant.left c.loop-k-test.true c.requires.0 in
    (c.requires.0.area, b.0, b.1)

pub mark_branches-mark_process-r-requires : goal.mark_branches-mark_process-r-requires
mark_branches-mark_process-r-requires t c =
    let terms = left_terms c.loop-k.invariant.left c.loop-k-test.true c.branch-b.ensures in
    (omega (arith, c.decreases, terms), (c.requires.0, c.requires.1, (left_first c.loop-k.invariant.left c.loop-k-test.true c.branch-b.ensures).process))

pub mark_branches-loop-k-preserved : goal.mark_branches-loop-k-preserved
mark_branches-loop-k-preserved t c = branch_turn c.loop-k.invariant c.loop-k-test.true c.branch-b.ensures c.mark_process-r.ensures _ refl

pub mark_branches-returns : goal.mark_branches-returns
mark_branches-returns t c = branches_done c.loop-k.invariant c.loop-k-test.false

pub mark_inner-mark_branches-requires : goal.mark_inner-mark_branches-requires
mark_inner-mark_branches-requires t c =
    let b = c.requires.2.branches c.if-node-eq-RECV_LABEL.true in
    (omega (arith, c.decreases, branches_terms_lem c.args.node c.args.text.now c.args.scratch.now c.if-node-eq-RECV_LABEL.true), (c.requires.0, c.requires.1, b))

pub mark_inner-returns-then-node-eq-RECV_LABEL : goal.mark_inner-returns-then-node-eq-RECV_LABEL
mark_inner-returns-then-node-eq-RECV_LABEL t c = inner_branches _ _ c.if-node-eq-RECV_LABEL.true c.mark_branches.ensures

pub mark_inner-mark_process-requires : goal.mark_inner-mark_process-requires
mark_inner-mark_process-requires t c =
    let so = sym c.has_halves.ensures ∙ c.if-has_halves.true in (
      omega (arith, c.decreases, half_terms c.args.node c.args.text.now c.args.scratch.now c.if-node-eq-RECV_LABEL.false so),
      (c.requires.0, c.requires.1, c.requires.2.first so),
    )

pub mark_inner-returns-then-has_halves : goal.mark_inner-returns-then-has_halves
mark_inner-returns-then-has_halves t c = inner_half _ _ c.if-node-eq-RECV_LABEL.false (sym c.has_halves.ensures ∙ c.if-has_halves.true) c.mark_process.ensures

pub mark_inner-returns : goal.mark_inner-returns
mark_inner-returns t c = inner_none _ _ c.if-node-eq-RECV_LABEL.false (sym c.has_halves.ensures ∙ c.if-has_halves.false)

pub mark_process-loop-at-init : goal.mark_process-loop-at-init
mark_process-loop-at-init t c = walk_begin _ _ _ _ c.requires.2

pub mark_process-term_node-node-requires : goal.mark_process-term_node-node-requires
mark_process-term_node-node-requires t c = (c.requires.0.area, c.loop-at-test.true)

pub mark_process-mark_acted-r-requires : goal.mark_process-mark_acted-r-requires
mark_process-mark_acted-r-requires t c =
    let o = node_mentions c.requires.0 c.loop-at.invariant.stands c.loop-at-test.true c.term_node-node.ensures in
    (o.calls, c.requires.1)

pub mark_process-hide_bound-left-requires : goal.mark_process-hide_bound-left-requires
mark_process-hide_bound-left-requires t c = c.requires.1

pub mark_process-mark_inner-r-requires : goal.mark_process-mark_inner-r-requires
mark_process-mark_inner-r-requires t c =
    let o = node_mentions c.requires.0 c.loop-at.invariant.stands c.loop-at-test.true c.term_node-node.ensures in
    (omega (arith, c.decreases, o.terms, c.loop-at.invariant.fewer), (c.requires.0, c.requires.1, o.inner))

pub mark_process-loop-at-smaller : goal.mark_process-loop-at-smaller
mark_process-loop-at-smaller t c =
    let o = node_mentions c.requires.0 c.loop-at.invariant.stands c.loop-at-test.true c.term_node-node.ensures in
    omega (arith, o.terms, ap (λ i. process_terms (process_in c.args.text.now c.args.scratch.now i)) c.last_part-at.ensures)

pub mark_process-loop-at-preserved : goal.mark_process-loop-at-preserved
mark_process-loop-at-preserved t c =
    let o = node_mentions c.requires.0 c.loop-at.invariant.stands c.loop-at-test.true c.term_node-node.ensures in
    walk_turn c.loop-at.invariant o c.mark_acted-r.ensures c.hide_bound-left.ensures c.mark_inner-r.ensures _ c.last_part-at.ensures

pub mark_process-returns : goal.mark_process-returns
mark_process-returns t c = walk_done c.loop-at.invariant c.requires.0 c.loop-at-test.false
