use mathlib.Core.Path.{refl, subst}
use native.Mathlib.Omega.{arith}
use Rattle.check_contexts.specs.Halves.{held_bounded}
use Rattle.check_contexts.specs.Held.{Retypes}
use Rattle.read_tables.specs.Access.{node_there}
use Rattle.check_terms.specs.Sends.{acts_so, sees_so, found_type, passes_absent, passes_nothing, passes_itself, passes_not, passes_so}
use Rattle.check_terms.specs.Next.{stops, goes, handed_on}
use Rattle.check_terms.proofs.sends.pass_next.Goals as goal

pub returns-in_err-e : goal.returns-in_err-e
returns-in_err-e c =
    let none = c.in_err-e.ensures.ok_part in
    stops (handed_on _ c.from_residual.ensures.1 none c.in_err-e.ensures.value) (passes_absent _ c.acting.ensures none)

pub find_end-requires : goal.find_end-requires
find_end-requires c = c.requires.1.many

pub returns-in_err-d : goal.returns-in_err-d
returns-in_err-d c =
    let none = c.in_err-d.ensures.ok_part in
    stops (handed_on _ c.from_residual-in_err-d.ensures.1 none c.in_err-d.ensures.value)
    (passes_nothing _ (acts_so c.acting.ensures c.in_ok-e.ensures.ok_part) c.find_end.ensures none)

pub returns-then-names_equal : goal.returns-then-names_equal
returns-then-names_equal c =
    stops refl (passes_itself _ (acts_so c.acting.ensures c.in_ok-e.ensures.ok_part)
    (sees_so c.requires.1 c.find_end.ensures c.in_ok-d.ensures.ok_part) c.if-names_equal.ensures)

pub passes_over-requires : goal.passes_over-requires
passes_over-requires c =
    let over = acts_so c.acting.ensures c.in_ok-e.ensures.ok_part in
    let what = sees_so c.requires.1 c.find_end.ensures c.in_ok-d.ensures.ok_part in
    (c.requires.0, over.fits, what.fits, over.side, what.side)

pub returns-in_err-after : goal.returns-in_err-after
returns-in_err-after c =
    let none = c.in_err-after.ensures.ok_part in
    stops (handed_on _ c.from_residual-in_err-after.ensures.1 none c.in_err-after.ensures.value)
    (passes_not _ (acts_so c.acting.ensures c.in_ok-e.ensures.ok_part)
    (sees_so c.requires.1 c.find_end.ensures c.in_ok-d.ensures.ok_part) c.if-names_equal.ensures c.passes_over.ensures none)

pub drop_end-left-requires : goal.drop_end-left-requires
drop_end-left-requires c = c.requires.1.many

pub narrow-requires : goal.narrow-requires
narrow-requires c = omega (arith, node_there _ _ c.requires.0 _ (found_type c.passes_over.ensures.type c.in_ok-after.ensures.ok_part))

pub retype_end-requires-clause-count_le_held_limit : goal.retype_end-requires-clause-count_le_held_limit
retype_end-requires-clause-count_le_held_limit c = (
  (c.drop_end-left.ensures.fits _ c.requires.1).many,
  omega (arith, node_there _ _ c.requires.0 _ (found_type c.passes_over.ensures.type c.in_ok-after.ensures.ok_part), c.narrow.ensures),
)

pub retype_end-requires-clause-all : goal.retype_end-requires-clause-all
retype_end-requires-clause-all c = held_bounded (c.drop_end-left.ensures.fits _ c.requires.1)

pub returns : goal.returns
returns c =
    let d = subst (λ j. Retypes c.args.text.now c.drop_end-left.result c.args.c j c.retype_end.result) c.narrow.ensures c.retype_end.ensures in
    goes _ (d.fits c.args.scratch.now (found_type c.passes_over.ensures.type c.in_ok-after.ensures.ok_part) (c.drop_end-left.ensures.fits _ c.requires.1))
    (passes_so _ (acts_so c.acting.ensures c.in_ok-e.ensures.ok_part) (sees_so c.requires.1 c.find_end.ensures c.in_ok-d.ensures.ok_part)
    c.if-names_equal.ensures c.passes_over.ensures c.in_ok-after.ensures.ok_part c.drop_end-left.ensures d)
