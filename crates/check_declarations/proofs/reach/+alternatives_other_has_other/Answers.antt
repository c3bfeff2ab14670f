use native.Mathlib.Omega.{arith}
use mathlib.Core.Path.{refl, ◌∙◌}
use Rattle.check_declarations.specs.Listed.{alternatives_fit, alternative_part}
use Rattle.check_declarations.specs.Other.{alternative_tested, alternatives_other}
use Rattle.check_declarations.specs.Reach.{test_start, test_on, test_found, test_end}
use Rattle.read_tables.specs.Access.{node_there}
use Rattle.check_declarations.specs.Other.{other_start, pair_parts, other_here, other_on, other_unit, other_name, choice_parts, other_choice, other_mark}
use Rattle.check_declarations.proofs.reach.+alternatives_other_has_other.Goals as goal

pub alternatives_other-loop-k-init : goal.alternatives_other-loop-k-init
alternatives_other-loop-k-init t c = test_start

pub alternatives_other-overflow_sub-e : goal.alternatives_other-overflow_sub-e
alternatives_other-overflow_sub-e t c =
    let fit = alternatives_fit _ _ c.requires.0 _ _ c.requires.1 in
    omega (arith, c.loop-k-test.true, fit)

pub alternatives_other-alternative-a-requires : goal.alternatives_other-alternative-a-requires
alternatives_other-alternative-a-requires t c =
    let fit = alternatives_fit _ _ c.requires.0 _ _ c.requires.1 in
    (c.requires.0.area, omega (arith, c.loop-k-test.true, fit), omega (arith, c.loop-k-test.true, fit))

pub alternatives_other-has_other-requires : goal.alternatives_other-has_other-requires
alternatives_other-has_other-requires t c =
    let part = alternative_part _ _ c.requires.0 _ _ c.requires.1 _ c.loop-k-test.true c.alternative-a.ensures in
    (omega (arith, c.decreases, part.0), (c.requires.0, part.1))

pub alternatives_other-returns-then-has_other : goal.alternatives_other-returns-then-has_other
alternatives_other-returns-then-has_other t c =
    let loop = c.loop-k in
    let loop_test = c.loop-k-test in
    let tested = alternative_tested _ _ _ c.args.e loop.k c.alternative-a.ensures c.has_other.ensures in
    test_found loop.invariant loop_test.true tested c.if-has_other.true ∙ alternatives_other _ _ _ c.args.e c.args.count

pub alternatives_other-loop-k-preserved : goal.alternatives_other-loop-k-preserved
alternatives_other-loop-k-preserved t c =
    let loop = c.loop-k in
    let loop_test = c.loop-k-test in
    let tested = alternative_tested _ _ _ c.args.e loop.k c.alternative-a.ensures c.has_other.ensures in
    test_on loop.invariant loop_test.true tested refl c.if-has_other.false

pub alternatives_other-returns : goal.alternatives_other-returns
alternatives_other-returns t c = test_end c.loop-k.invariant c.loop-k-test.false ∙ alternatives_other _ _ _ c.args.e c.args.count

pub has_other-type_node-n-requires : goal.has_other-type_node-n-requires
has_other-type_node-n-requires t c = (c.requires.0.area, node_there _ _ c.requires.0 _ c.requires.1)

pub has_other-loop-n-init : goal.has_other-loop-n-init
has_other-loop-n-init t c = other_start c.requires.1 c.type_node-n.ensures

pub has_other-has_other-requires : goal.has_other-has_other-requires
has_other-has_other-requires t c =
    let parts = pair_parts c.loop-n.invariant c.requires.0 c.loop-n-test.true in
    (omega (arith, c.decreases, parts.0, c.loop-n.invariant.right.fewer), (c.requires.0, parts.2))

pub has_other-returns-then-has_other : goal.has_other-returns-then-has_other
has_other-returns-then-has_other t c =
    let loop = c.loop-n in
    other_here loop.invariant c.requires.0 c.loop-n-test.true c.has_other.ensures c.if-has_other.true

pub has_other-type_node-n-requires-in-loop-n : goal.has_other-type_node-n-requires-in-loop-n
has_other-type_node-n-requires-in-loop-n t c =
    let loop = c.loop-n in
    let parts = pair_parts loop.invariant c.requires.0 c.loop-n-test.true in
    (c.requires.0.area, node_there _ _ c.requires.0 _ parts.3)

pub has_other-loop-n-smaller : goal.has_other-loop-n-smaller
has_other-loop-n-smaller t c =
    let loop = c.loop-n in
    let if1 = c.loop-n-test in
    let parts = pair_parts loop.invariant c.requires.0 if1.true in
    omega (arith, parts.1)

pub has_other-loop-n-preserved : goal.has_other-loop-n-preserved
has_other-loop-n-preserved t c =
    let loop = c.loop-n in
    let if1 = c.loop-n-test in
    other_on loop.invariant c.requires.0 if1.true c.has_other.ensures c.if-has_other.false c.type_node-n-in-loop-n.ensures

pub has_other-returns-then-n-eq-UNIT : goal.has_other-returns-then-n-eq-UNIT
has_other-returns-then-n-eq-UNIT t c =
    let loop = c.loop-n in
    other_unit loop.invariant c.requires.0 c.if-n-eq-UNIT.true

pub has_other-returns-then-n-eq-NAMED : goal.has_other-returns-then-n-eq-NAMED
has_other-returns-then-n-eq-NAMED t c =
    let loop = c.loop-n in
    other_name loop.invariant c.requires.0 c.if-n-eq-NAMED.true c.is_marked.ensures

pub has_other-alternatives_other-requires : goal.has_other-alternatives_other-requires
has_other-alternatives_other-requires t c =
    let loop = c.loop-n in
    let parts = choice_parts loop.invariant c.requires.0 c.if-n-eq-PLUS.true in
    (omega (arith, c.decreases, parts.0, loop.invariant.right.fewer), (c.requires.0, parts.1))

pub has_other-returns-then-n-eq-PLUS : goal.has_other-returns-then-n-eq-PLUS
has_other-returns-then-n-eq-PLUS t c =
    let loop = c.loop-n in
    other_choice loop.invariant c.requires.0 c.if-n-eq-PLUS.true c.alternatives_other.ensures

pub has_other-returns : goal.has_other-returns
has_other-returns t c =
    let loop = c.loop-n in
    let if1 = c.loop-n-test in
    let if3 = c.if-n-eq-UNIT in
    other_mark loop.invariant c.requires.0 if3.false c.if-n-eq-NAMED.false if1.false c.if-n-eq-PLUS.false
