use native.Mathlib.Omega.{arith}
use Rattle.check_terms.specs.Calls.{fits_nothing, fits_not, fits_last}
use Rattle.check_terms.proofs.calls.lists_fit.Goals as goal

pub find_process-requires : goal.find_process-requires
find_process-requires c = c.requires.0

pub returns-in_default : goal.returns-in_default
returns-in_default c = fits_nothing _ _ _ c.args.q c.find_process.ensures c.in_default.is

pub declared_process-e-requires : goal.declared_process-e-requires
declared_process-e-requires c =
    let t = c.requires.0 in
    (t.area, omega (arith, t.within, c.find_process.ensures.below _ c.in-Some.is))

pub list_fits-requires : goal.list_fits-requires
list_fits-requires c = (
  c.requires.0,
  c.requires.1,
  omega arith,
  (c.declared_process-e.ensures.stands _ c.requires.0 (c.find_process.ensures.below _ c.in-Some.is)).provides,
)

pub returns-else-list_fits : goal.returns-else-list_fits
returns-else-list_fits c =
    rw c.if-list_fits.false
    (fits_not _ _ _ c.args.q c.find_process.ensures c.in-Some.is c.declared_process-e.ensures c.if-list_fits.ensures)

pub overflow_add-e : goal.overflow_add-e
overflow_add-e c = omega (arith, c.declared_process-e.ensures.small)

pub list_fits-requires-then-list_fits : goal.list_fits-requires-then-list_fits
list_fits-requires-then-list_fits c = (
  c.requires.0,
  c.requires.1,
  omega arith,
  (c.declared_process-e.ensures.stands _ c.requires.0 (c.find_process.ensures.below _ c.in-Some.is)).uses,
)

pub returns-then-list_fits : goal.returns-then-list_fits
returns-then-list_fits c =
    fits_last _ _ _ c.args.q c.find_process.ensures c.in-Some.is c.declared_process-e.ensures c.if-list_fits.ensures
    c.list_fits-then-list_fits.ensures
