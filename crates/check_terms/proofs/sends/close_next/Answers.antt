use mathlib.Core.Path.{refl}
use Rattle.read_tables.specs.Access.{node_there}
use Rattle.check_terms.specs.Acting.{typed_as}
use Rattle.check_terms.specs.Sends.{acts_so, closes_absent, closes_other_side, closes_not, closes_so}
use Rattle.check_terms.specs.Next.{stops, goes, handed_on}
use Rattle.check_terms.proofs.sends.close_next.Goals as goal

pub returns-in_err-e : goal.returns-in_err-e
returns-in_err-e c =
    let none = c.in_err-e.ensures.ok_part in
    stops (handed_on _ c.from_residual.ensures.1 none c.in_err-e.ensures.value) (closes_absent _ c.requires.2 c.acting.ensures none)

pub returns-then-e-side : goal.returns-then-e-side
returns-then-e-side c = stops refl (closes_other_side _ c.requires.2 (acts_so c.acting.ensures c.in_ok-e.ensures.ok_part) c.if-e-side.true)

pub is_unit-requires : goal.is_unit-requires
is_unit-requires c = (
  c.requires.0.area,
  node_there _ _ c.requires.0 _ (typed_as _ _ _ _ c.wide.ensures.value (acts_so c.acting.ensures c.in_ok-e.ensures.ok_part).fits),
)

pub returns-then-not-is_unit : goal.returns-then-not-is_unit
returns-then-not-is_unit c =
    stops refl (closes_not _ c.requires.2 c.requires.0 (acts_so c.acting.ensures c.in_ok-e.ensures.ok_part) c.if-e-side.false
    c.wide.ensures.value c.if-not-is_unit.ensures)

pub drop_end-requires : goal.drop_end-requires
drop_end-requires c = c.requires.1.many

pub returns : goal.returns
returns c =
    goes _ (c.drop_end.ensures.fits _ c.requires.1)
    (closes_so _ c.requires.2 c.requires.0 (acts_so c.acting.ensures c.in_ok-e.ensures.ok_part) c.if-e-side.false c.wide.ensures.value
    c.if-not-is_unit.ensures c.drop_end.ensures)
