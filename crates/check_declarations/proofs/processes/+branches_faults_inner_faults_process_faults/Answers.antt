use native.Mathlib.Omega.{arith}
use mathlib.Core.Path.{refl}
use Rattle.check_declarations.specs.Listed.{branches_fit, branch_part}
use Rattle.check_declarations.specs.Lowest.{walk_start, walk_on}
use Rattle.check_declarations.specs.ProcessFaults.{branch_walked, branches_done}
use Rattle.check_declarations.specs.Lowest.{lowered_none}
use Rattle.check_declarations.specs.ProcessFaults.{inner_at, inner_found}
use Rattle.check_declarations.specs.declared.processes.Parts.TheVariants.{Leaf, Third, Both, Branches}
use mathlib.Core.Path.{ap}
use Rattle.notation.specs.Sizes.{process_terms}
use Rattle.read_tables.specs.Decode.{process_in}
use Rattle.check_declarations.specs.ProcessFaults.{follow_start, follow_node, follow_on, follow_end}
use Rattle.notation.specs.Sizes.{process_terms}
use Rattle.check_declarations.proofs.processes.+branches_faults_inner_faults_process_faults.Goals as goal

pub branches_faults-loop-k-init : goal.branches_faults-loop-k-init
branches_faults-loop-k-init t c = walk_start

pub branches_faults-overflow_sub-e : goal.branches_faults-overflow_sub-e
branches_faults-overflow_sub-e t c =
    let fit = branches_fit _ _ c.requires.0 _ _ c.requires.1 in
    omega (arith, c.loop-k-test.true, fit)

pub branches_faults-branch-b-requires : goal.branches_faults-branch-b-requires
branches_faults-branch-b-requires t c =
    let fit = branches_fit _ _ c.requires.0 _ _ c.requires.1 in
    (c.requires.0.area, omega (arith, c.loop-k-test.true, fit), omega (arith, c.loop-k-test.true, fit))

pub branches_faults-process_faults-l-requires : goal.branches_faults-process_faults-l-requires
branches_faults-process_faults-l-requires t c =
    let part = branch_part _ _ c.requires.0 _ _ c.requires.1 _ c.loop-k-test.true c.branch-b.ensures in
    (omega (arith, c.decreases, part.0), (c.requires.0, part.1))

pub branches_faults-loop-k-preserved : goal.branches_faults-loop-k-preserved
branches_faults-loop-k-preserved t c =
    let loop = c.loop-k in
    let found = branch_walked _ _ c.args.pass c.args.e loop.k c.branch-b.ensures c.process_faults-l.ensures in
    walk_on refl loop.invariant c.loop-k-test.true found

pub branches_faults-returns : goal.branches_faults-returns
branches_faults-returns t c = branches_done _ _ c.args.pass c.args.e c.args.count c.loop-k.invariant c.loop-k-test.false

pub inner_faults-process_faults-requires : goal.inner_faults-process_faults-requires
inner_faults-process_faults-requires t c =
    let part = inner_at c.args.n c.args.text.now c.args.scratch.now Both c.in-Both.is in
    (omega (arith, c.decreases, part.terms), (c.requires.0, part.stands c.requires.1))

pub inner_faults-branches_faults-requires : goal.inner_faults-branches_faults-requires
inner_faults-branches_faults-requires t c =
    let part = inner_at c.args.n c.args.text.now c.args.scratch.now Branches c.in-Branches.is in
    (omega (arith, c.decreases, part.terms), (c.requires.0, part.stands c.requires.1))

pub inner_faults-returns-in-Leaf : goal.inner_faults-returns-in-Leaf
inner_faults-returns-in-Leaf t c = inner_found _ _ c.args.pass c.args.n Leaf c.in-Leaf.is lowered_none

pub inner_faults-returns-in-Third : goal.inner_faults-returns-in-Third
inner_faults-returns-in-Third t c = inner_found _ _ c.args.pass c.args.n Third c.in-Third.is lowered_none

pub inner_faults-returns-in-Both : goal.inner_faults-returns-in-Both
inner_faults-returns-in-Both t c = inner_found _ _ c.args.pass c.args.n Both c.in-Both.is c.process_faults.ensures

pub inner_faults-returns-in-Branches : goal.inner_faults-returns-in-Branches
inner_faults-returns-in-Branches t c = inner_found _ _ c.args.pass c.args.n Branches c.in-Branches.is c.branches_faults.ensures

pub process_faults-loop-at-init : goal.process_faults-loop-at-init
process_faults-loop-at-init t c = follow_start c.requires.1

pub process_faults-term_node-n-requires : goal.process_faults-term_node-n-requires
process_faults-term_node-n-requires t c = (c.requires.0.area, c.loop-at-test.true)

pub process_faults-node_faults-l-requires : goal.process_faults-node_faults-l-requires
process_faults-node_faults-l-requires t c =
    let loop = c.loop-at in
    (c.requires.0, (_, c.loop-at-test.true, loop.invariant.stands, c.term_node-n.ensures))

pub process_faults-inner_faults-l-requires : goal.process_faults-inner_faults-l-requires
process_faults-inner_faults-l-requires t c =
    let said = follow_node c.loop-at.invariant c.requires.0 c.loop-at-test.true c.term_node-n.ensures c.parts_of-parts.ensures in
    (omega (arith, c.decreases, said.terms, c.loop-at.invariant.fewer), (c.requires.0, said.inner))

pub process_faults-loop-at-smaller : goal.process_faults-loop-at-smaller
process_faults-loop-at-smaller t c =
    let parts_of = c.parts_of-parts in
    let said = follow_node c.loop-at.invariant c.requires.0 c.loop-at-test.true c.term_node-n.ensures parts_of.ensures in
    omega (arith, said.terms, ap (λ q. process_terms (process_in c.args.text.now c.args.scratch.now q)) c.what_follows-at.ensures)

pub process_faults-loop-at-preserved : goal.process_faults-loop-at-preserved
process_faults-loop-at-preserved t c =
    let parts_of = c.parts_of-parts in
    let said = follow_node c.loop-at.invariant c.requires.0 c.loop-at-test.true c.term_node-n.ensures parts_of.ensures in
    follow_on c.loop-at.invariant _ said c.node_faults-l.ensures c.inner_faults-l.ensures c.what_follows-at.ensures

pub process_faults-returns : goal.process_faults-returns
process_faults-returns t c = follow_end c.loop-at.invariant c.requires.0 c.loop-at-test.false
