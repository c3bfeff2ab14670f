use Rattle.std.proofs.Common.{inl, inr}
use Rattle.check_terms.specs.Acting.{typed_as}
use Rattle.check_terms.specs.Endings.{joins_not_provided, joins_not_used, joins_so}
use Rattle.check_terms.proofs.forwards.may_join.Goals as goal

pub returns-then-x-ne-PROVIDED : goal.returns-then-x-ne-PROVIDED
returns-then-x-ne-PROVIDED c =
    elim c.then-x-ne-PROVIDED.either [
      | inl n ↦ joins_not_provided _ _ c.args.x c.args.c c.requires.3 c.requires.4 n
      | inr (m, n) ↦ joins_not_used _ _ c.args.x c.args.c c.requires.3 c.requires.4 m n
    ]

pub same_type-requires : goal.same_type-requires
same_type-requires c = (
  c.requires.0,
  typed_as _ _ _ _ c.wide.ensures.value c.requires.2,
  typed_as _ _ _ _ c.wide-2.ensures.value c.requires.1,
)

pub returns : goal.returns
returns c =
    joins_so _ _ c.args.x c.args.c c.requires.3 c.requires.4 c.if-x-ne-PROVIDED.false c.if-c-ne-USED.false
    c.wide.ensures.value c.wide-2.ensures.value c.same_type.ensures
