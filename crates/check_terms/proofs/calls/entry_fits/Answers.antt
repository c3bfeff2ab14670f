use mathlib.Core.Path.{◌∙◌}
use borrow.Author.Tests.{ne_eqb}
use Rattle.check_terms.specs.Acting.{typed_as}
use Rattle.check_terms.specs.Sends.{sees_so}
use Rattle.check_terms.specs.Lists.{entry_absent, entry_other, entry_so}
use Rattle.check_terms.proofs.calls.entry_fits.Goals as goal

pub find_end-requires : goal.find_end-requires
find_end-requires c = c.requires.1.many

pub returns-in_default : goal.returns-in_default
returns-in_default c = entry_absent _ _ _ c.requires.2 c.find_end.ensures c.in_default.is

pub returns-else-e-side : goal.returns-else-e-side
returns-else-e-side c = ne_eqb _ _ c.if-e-side.false ∙ entry_other _ _ _ c.requires.2 (sees_so c.requires.1 c.find_end.ensures c.in-Some.is) c.if-e-side.false

pub same_type-requires : goal.same_type-requires
same_type-requires c = (
  c.requires.0,
  typed_as _ _ _ _ c.wide.ensures.value (sees_so c.requires.1 c.find_end.ensures c.in-Some.is).fits,
  c.requires.3,
)

pub returns-then-e-side : goal.returns-then-e-side
returns-then-e-side c =
    entry_so _ _ _ c.requires.2 (sees_so c.requires.1 c.find_end.ensures c.in-Some.is) c.if-e-side.true
    c.wide.ensures.value c.same_type.ensures
