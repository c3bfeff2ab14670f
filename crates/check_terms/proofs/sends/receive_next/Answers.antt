use mathlib.Core.Path.{refl, subst}
use native.Mathlib.Omega.{arith}
use Rattle.check_contexts.specs.Halves.{held_bounded}
use Rattle.check_contexts.specs.Held.{Retypes, Brings}
use Rattle.read_tables.specs.Access.{node_there}
use Rattle.check_terms.specs.Sends.{acts_so, retyped_count, received_types, receives_absent, receives_nothing, receives_known, receives_full, receives_so}
use Rattle.check_terms.specs.Next.{stops, goes, handed_on}
use Rattle.check_terms.proofs.sends.receive_next.Goals as goal

pub returns-in_err-e : goal.returns-in_err-e
returns-in_err-e c =
    let none = c.in_err-e.ensures.ok_part in
    stops (handed_on _ c.from_residual.ensures.1 none c.in_err-e.ensures.value) (receives_absent _ c.acting.ensures none)

pub takes_from-requires : goal.takes_from-requires
takes_from-requires c =
    let found = acts_so c.acting.ensures c.in_ok-e.ensures.ok_part in
    (c.requires.0.area, node_there _ _ c.requires.0 _ found.fits.type, found.side)

pub returns-in_err-t : goal.returns-in_err-t
returns-in_err-t c =
    let none = c.in_err-t.ensures.ok_part in
    stops (handed_on _ c.from_residual-in_err-t.ensures.1 none c.in_err-t.ensures.value)
    (receives_nothing _ c.requires.0 (acts_so c.acting.ensures c.in_ok-e.ensures.ok_part) c.takes_from.ensures none)

pub is_new-requires : goal.is_new-requires
is_new-requires c = c.requires.1.many

pub returns-then-not-is_new : goal.returns-then-not-is_new
returns-then-not-is_new c =
    stops refl (receives_known _ c.requires.0 (acts_so c.acting.ensures c.in_ok-e.ensures.ok_part) c.takes_from.ensures c.in_ok-t.ensures.ok_part
    (c.if-not-is_new.ensures c.args.scratch.now))

pub returns-then-h-eq-HELD : goal.returns-then-h-eq-HELD
returns-then-h-eq-HELD c =
    stops refl (receives_full _ c.requires.0 (acts_so c.acting.ensures c.in_ok-e.ensures.ok_part) c.takes_from.ensures c.in_ok-t.ensures.ok_part
    (c.if-not-is_new.ensures c.args.scratch.now) (omega (arith, c.if-h-eq-HELD.true)))

pub narrow-requires : goal.narrow-requires
narrow-requires c =
    let types = received_types c.args.x c.requires.0 (acts_so c.acting.ensures c.in_ok-e.ensures.ok_part) c.takes_from.ensures c.in_ok-t.ensures.ok_part in
    omega (arith, node_there _ _ c.requires.0 _ types.1)

pub retype_end-left-requires-clause-count_le_held_limit : goal.retype_end-left-requires-clause-count_le_held_limit
retype_end-left-requires-clause-count_le_held_limit c =
    let types = received_types c.args.x c.requires.0 (acts_so c.acting.ensures c.in_ok-e.ensures.ok_part) c.takes_from.ensures c.in_ok-t.ensures.ok_part in
    (c.requires.1.many, omega (arith, node_there _ _ c.requires.0 _ types.1, c.narrow.ensures))

pub retype_end-left-requires-clause-all : goal.retype_end-left-requires-clause-all
retype_end-left-requires-clause-all c = held_bounded c.requires.1

pub narrow-requires-2 : goal.narrow-requires-2
narrow-requires-2 c = omega (arith, c.requires.2)

pub narrow-requires-3 : goal.narrow-requires-3
narrow-requires-3 c =
    let types = received_types c.args.x c.requires.0 (acts_so c.acting.ensures c.in_ok-e.ensures.ok_part) c.takes_from.ensures c.in_ok-t.ensures.ok_part in
    omega (arith, node_there _ _ c.requires.0 _ types.0)

pub bring_end-requires : goal.bring_end-requires
bring_end-requires c =
    let types = received_types c.args.x c.requires.0 (acts_so c.acting.ensures c.in_ok-e.ensures.ok_part) c.takes_from.ensures c.in_ok-t.ensures.ok_part in
    let d = subst (λ j. Retypes c.args.text.now c.args.h c.args.c j c.retype_end-left.result) c.narrow.ensures c.retype_end-left.ensures in (
      omega (arith, c.requires.1.many, c.if-h-eq-HELD.false, retyped_count c.args.text.now c.args.scratch.now c.args.h c.args.c _ _ d),
      omega (arith, c.requires.2, c.narrow-2.ensures),
      types.3,
      omega (arith, node_there _ _ c.requires.0 _ types.0, c.narrow-3.ensures),
      omega arith,
    )

pub returns : goal.returns
returns c =
    let found = acts_so c.acting.ensures c.in_ok-e.ensures.ok_part in
    let types = received_types c.args.x c.requires.0 found c.takes_from.ensures c.in_ok-t.ensures.ok_part in
    let d = subst (λ j. Retypes c.args.text.now c.args.h c.args.c j c.retype_end-left.result) c.narrow.ensures c.retype_end-left.ensures in
    let e = subst (λ j. Brings c.retype_end-left.result c.args.x c.in_ok-t.t.side j 0 c.bring_end.result) c.narrow-3.ensures
    (subst (λ i. Brings c.retype_end-left.result i c.in_ok-t.t.side c.narrow-3.result 0 c.bring_end.result) c.narrow-2.ensures c.bring_end.ensures) in
    goes _ (e.fits c.args.text.now c.args.scratch.now types.0 (d.fits _ types.1 c.requires.1))
    (receives_so _ c.requires.0 found c.takes_from.ensures c.in_ok-t.ensures.ok_part (c.if-not-is_new.ensures c.args.scratch.now)
    (omega (arith, c.requires.1.many, c.if-h-eq-HELD.false)) d e)
