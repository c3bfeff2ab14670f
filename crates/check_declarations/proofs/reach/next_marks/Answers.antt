use borrow.Author.Rules.{rules}
use native.Mathlib.Omega.{arith}
use mathlib.Core.Path.{refl}
use Rattle.check_declarations.specs.Reach.{mark_start, mark_on, mark_end}
use Rattle.check_declarations.proofs.reach.next_marks.Goals as goal

pub loop-i-init : goal.loop-i-init
loop-i-init c = mark_start (search rules)

pub has_other-requires : goal.has_other-requires
has_other-requires c = (c.requires, c.declared_type-t.ensures.stands _ c.requires (omega (arith, c.loop-i-test.true, c.type_count-n.ensures)))

pub loop-i-preserved : goal.loop-i-preserved
loop-i-preserved c =
    mark_on c.loop-i.i refl c.loop-i.invariant
    (omega (arith, c.loop-i-test.true, c.type_count-n.ensures)) (search rules) c.declared_type-t.ensures c.has_other.ensures

pub returns : goal.returns
returns c = mark_end c.loop-i.invariant (omega (arith, c.loop-i-test.false, c.type_count-n.ensures))
