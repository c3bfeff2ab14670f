use native.Mathlib.Omega.{arith}
use mathlib.Core.Path.{refl}
use Rattle.check_declarations.specs.Faults.{alternative_walked, choice_done}
use Rattle.check_declarations.specs.Listed.{alternatives_fit, alternative_part}
use Rattle.check_declarations.specs.Lowest.{walk_start, walk_on}
use mathlib.Core.Path.{sym, ◌∙◌}
use Rattle.read_tables.specs.Access.{node_there}
use Rattle.check_declarations.specs.Faults.{typewise_start, typewise_parts, typewise_on, typewise_unit, typewise_name, typewise_choice, typewise_last}
use Rattle.check_declarations.proofs.faults.+choice_faults_type_faults.Goals as goal

pub choice_faults-list_faults-l-requires : goal.choice_faults-list_faults-l-requires
choice_faults-list_faults-l-requires t c = (c.requires.0, alternatives_fit _ _ c.requires.0 _ _ c.requires.1)

pub choice_faults-loop-k-init : goal.choice_faults-loop-k-init
choice_faults-loop-k-init t c = walk_start

pub choice_faults-overflow_sub-e : goal.choice_faults-overflow_sub-e
choice_faults-overflow_sub-e t c =
    let fit = alternatives_fit _ _ c.requires.0 _ _ c.requires.1 in
    omega (arith, c.loop-k-test.true, fit)

pub choice_faults-alternative-a-requires : goal.choice_faults-alternative-a-requires
choice_faults-alternative-a-requires t c =
    let fit = alternatives_fit _ _ c.requires.0 _ _ c.requires.1 in
    (c.requires.0.area, omega (arith, c.loop-k-test.true, fit), omega (arith, c.loop-k-test.true, fit))

pub choice_faults-type_faults-l-requires : goal.choice_faults-type_faults-l-requires
choice_faults-type_faults-l-requires t c =
    let part = alternative_part _ _ c.requires.0 _ _ c.requires.1 _ c.loop-k-test.true c.alternative-a.ensures in
    (omega (arith, c.decreases, part.0), (c.requires.0, part.1))

pub choice_faults-loop-k-preserved : goal.choice_faults-loop-k-preserved
choice_faults-loop-k-preserved t c =
    let loop = c.loop-k in
    let found = alternative_walked _ _ c.args.pass c.args.e loop.k c.alternative-a.ensures c.type_faults-l.ensures in
    walk_on refl loop.invariant c.loop-k-test.true found

pub choice_faults-returns : goal.choice_faults-returns
choice_faults-returns t c = choice_done _ _ c.args.pass c.args.e c.args.count c.list_faults-l.ensures c.loop-k.invariant c.loop-k-test.false

pub type_faults-type_node-n-requires : goal.type_faults-type_node-n-requires
type_faults-type_node-n-requires t c = (c.requires.0.area, node_there _ _ c.requires.0 _ c.requires.1)

pub type_faults-loop-at-init : goal.type_faults-loop-at-init
type_faults-loop-at-init t c = typewise_start c.requires.1 c.type_node-n.ensures

pub type_faults-type_faults-l-requires : goal.type_faults-type_faults-l-requires
type_faults-type_faults-l-requires t c =
    let parts = typewise_parts c.loop-at.invariant c.requires.0 (sym c.is_infix.ensures ∙ c.loop-at-test.true) in
    (omega (arith, c.decreases, parts.0, c.loop-at.invariant.right.fewer), (c.requires.0, parts.2))

pub type_faults-type_node-n-requires-in-loop-at : goal.type_faults-type_node-n-requires-in-loop-at
type_faults-type_node-n-requires-in-loop-at t c =
    let loop = c.loop-at in
    let parts = typewise_parts loop.invariant c.requires.0 (sym c.is_infix.ensures ∙ c.loop-at-test.true) in
    (c.requires.0.area, node_there _ _ c.requires.0 _ parts.3)

pub type_faults-loop-at-smaller : goal.type_faults-loop-at-smaller
type_faults-loop-at-smaller t c =
    let loop = c.loop-at in
    let is_infix_lem = c.is_infix in
    let parts = typewise_parts loop.invariant c.requires.0 (sym is_infix_lem.ensures ∙ c.loop-at-test.true) in
    omega (arith, parts.1)

pub type_faults-loop-at-preserved : goal.type_faults-loop-at-preserved
type_faults-loop-at-preserved t c =
    let loop = c.loop-at in
    let is_infix_lem = c.is_infix in
    typewise_on loop.invariant c.requires.0 (sym is_infix_lem.ensures ∙ c.loop-at-test.true) c.type_faults-l.ensures c.type_node-n-in-loop-at.ensures

pub type_faults-returns-then-n-eq-UNIT : goal.type_faults-returns-then-n-eq-UNIT
type_faults-returns-then-n-eq-UNIT t c =
    let loop = c.loop-at in
    typewise_unit loop.invariant c.requires.0 c.if-n-eq-UNIT.true

pub type_faults-returns-then-n-eq-NAMED : goal.type_faults-returns-then-n-eq-NAMED
type_faults-returns-then-n-eq-NAMED t c =
    let loop = c.loop-at in
    typewise_name loop.invariant c.requires.0 c.if-n-eq-NAMED.true c.name_faults.ensures

pub type_faults-choice_faults-requires : goal.type_faults-choice_faults-requires
type_faults-choice_faults-requires t c =
    let loop = c.loop-at in
    let is_infix_lem = c.is_infix in
    let if1 = c.loop-at-test in
    let parts = typewise_choice loop.invariant c.requires.0 (sym is_infix_lem.ensures ∙ if1.false) c.if-n-eq-UNIT.false c.if-n-eq-NAMED.false in
    (omega (arith, c.decreases, parts.0, loop.invariant.right.fewer), (c.requires.0, parts.1))

pub type_faults-returns : goal.type_faults-returns
type_faults-returns t c =
    let loop = c.loop-at in
    let is_infix_lem = c.is_infix in
    let if1 = c.loop-at-test in
    let if2 = c.if-n-eq-UNIT in
    typewise_last loop.invariant c.requires.0 (sym is_infix_lem.ensures ∙ if1.false) if2.false c.if-n-eq-NAMED.false c.choice_faults.ensures
