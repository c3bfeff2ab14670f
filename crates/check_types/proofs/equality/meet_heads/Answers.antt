use native.Mathlib.Omega.{arith}
use Rattle.check_types.specs.Meeting.{pairs_there, labels_there, heads_differ, heads_leaf, heads_word, heads_pair, heads_stop, heads_choice}
use Rattle.check_types.proofs.equality.meet_heads.Goals as goal

pub returns-then-kind-y : goal.returns-then-kind-y
returns-then-kind-y c = heads_differ _ _ _ _ _ _ c.if-kind-y.true

pub returns-then-kind-eq-UNIT : goal.returns-then-kind-eq-UNIT
returns-then-kind-eq-UNIT c = heads_leaf _ _ _ _ _ _ c.if-kind-y.false c.if-kind-eq-UNIT.true

pub returns-then-kind-eq-NAMED : goal.returns-then-kind-eq-NAMED
returns-then-kind-eq-NAMED c = heads_word _ _ _ _ _ _ c.if-kind-y.false _ c.if-kind-eq-NAMED.true c.names_equal.ensures

pub join_types-requires : goal.join_types-requires
join_types-requires c =
    let (p, q) = pairs_there _ _ c.requires.1 c.requires.2 c.if-kind-y.false c.if-kind-eq-UNIT.false c.if-kind-eq-NAMED.false (omega (arith, c.if-kind-le-LOLLI.true)) in
    (c.requires.0, p.0, q.0)

pub join_types-requires-then-kind-le-LOLLI : goal.join_types-requires-then-kind-le-LOLLI
join_types-requires-then-kind-le-LOLLI c =
    let (p, q) = pairs_there _ _ c.requires.1 c.requires.2 c.if-kind-y.false c.if-kind-eq-UNIT.false c.if-kind-eq-NAMED.false (omega (arith, c.if-kind-le-LOLLI.true)) in
    (c.requires.0, p.1, q.1)

pub returns-then-kind-le-LOLLI : goal.returns-then-kind-le-LOLLI
returns-then-kind-le-LOLLI c = heads_pair _ _ _ _ _ _ c.if-kind-y.false c.if-kind-eq-UNIT.false c.if-kind-eq-NAMED.false (omega (arith, c.if-kind-le-LOLLI.true)) c.requires.0 c.requires.1 c.requires.2 _ _ _ _ c.join_types.ensures.is c.join_types-then-kind-le-LOLLI.ensures.is

pub meet_labels-requires : goal.meet_labels-requires
meet_labels-requires c =
    let there = labels_there _ _ c.requires.1 c.requires.2 c.if-kind-y.false (omega (arith, c.if-kind-le-LOLLI.false)) in
    (c.requires.0, there.0, there.0, there.1)

pub returns-then-not-meet_labels : goal.returns-then-not-meet_labels
returns-then-not-meet_labels c = heads_stop _ _ _ _ _ _ c.if-kind-y.false (omega (arith, c.if-kind-le-LOLLI.false)) _ _ _ c.meet_labels.ensures c.if-not-meet_labels.true

pub meet_labels-requires-2 : goal.meet_labels-requires-2
meet_labels-requires-2 c =
    let there = labels_there _ _ c.requires.1 c.requires.2 c.if-kind-y.false (omega (arith, c.if-kind-le-LOLLI.false)) in
    (c.requires.0, there.1, there.0, there.1)

pub returns : goal.returns
returns c = heads_choice _ _ _ _ _ _ c.if-kind-y.false (omega (arith, c.if-kind-le-LOLLI.false)) _ _ _ _ _ _ c.meet_labels.ensures c.if-not-meet_labels.false c.meet_labels-2.ensures
