use Rattle.std.proofs.Common.{refl}
use Rattle.check_types.specs.Classes.{all_own, waits_at}
use Rattle.check_types.specs.Meeting.{small_in}
use Rattle.check_types.specs.Comparing.{going_start, going_there, going_apart, going_on, going_end}
use Rattle.check_types.proofs.equality.same_tree.Goals as goal

pub join-requires : goal.join-requires
join-requires c = (small_in _ _ c.requires.0 _ c.requires.1, small_in _ _ c.requires.0 _ c.requires.2)

pub loop-i-init : goal.loop-i-init
loop-i-init c = going_start _ _ c.requires.0 _ _ c.requires.1 c.requires.2 _ _ _ _ (c.own_each.ensures refl) refl all_own c.join.ensures

pub turn-requires : goal.turn-requires
turn-requires c =
    let waits = (waits_at _ c.loop-i.invariant.good.states c.first_waiting.ensures).here _ c.in-Some.is in
    let there = going_there _ _ _ _ _ _ _ c.loop-i.invariant waits in
    (c.requires.0, there.0, there.1)

pub returns-then-not-turn : goal.returns-then-not-turn
returns-then-not-turn c =
    let waits = (waits_at _ c.loop-i.invariant.good.states c.first_waiting.ensures).here _ c.in-Some.is in
    going_apart _ _ _ _ _ _ _ c.loop-i.invariant waits _ _ _ c.turn.ensures c.if-not-turn.true

pub loop-i-smaller : goal.loop-i-smaller
loop-i-smaller c =
    let waits = (waits_at _ c.loop-i.invariant.good.states c.first_waiting.ensures).here _ c.in-Some.is in
    (going_on _ _ _ _ _ _ _ c.loop-i.invariant waits _ _ _ c.turn.ensures c.if-not-turn.false).1

pub loop-i-preserved : goal.loop-i-preserved
loop-i-preserved c =
    let waits = (waits_at _ c.loop-i.invariant.good.states c.first_waiting.ensures).here _ c.in-Some.is in
    (going_on _ _ _ _ _ _ _ c.loop-i.invariant waits _ _ _ c.turn.ensures c.if-not-turn.false).0

pub returns : goal.returns
returns c =
    let waits = waits_at _ c.loop-i.invariant.good.states c.first_waiting.ensures in
    going_end _ _ c.requires.0 _ _ c.requires.1 c.requires.2 _ _ c.loop-i.invariant (waits.none c.in_default.is)
