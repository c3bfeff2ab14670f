use mathlib.Core.Path.{sym}
use native.Mathlib.Omega.{arith}
use Rattle.check_terms.specs.Lists.{drop_start, drop_on, drop_end}
use Rattle.check_contexts.specs.Walks.{forward_name}
use Rattle.check_terms.proofs.calls.drop_list.Goals as goal

pub loop-x-init : goal.loop-x-init
loop-x-init c = drop_start _ _ _ c.requires

pub returns : goal.returns
returns c = drop_end _ _ _ _ _ c.loop-x.invariant _ (sym c.in_default.ensures.value)

pub drop_end-r-requires : goal.drop_end-r-requires
drop_end-r-requires c = c.loop-x.invariant.many

pub loop-x-smaller : goal.loop-x-smaller
loop-x-smaller c = omega (arith, forward_name _ _ _ _ _ c.next_argument.ensures.forward c.in-Name.is)

pub loop-x-preserved : goal.loop-x-preserved
loop-x-preserved c =
    drop_on _ _ _ _ _ c.loop-x.invariant _ _ (sym c.in-Name.ensures.value) _ c.drop_end-r.ensures
    (omega (arith, c.drop_end-r.ensures.few, c.loop-x.invariant.many))
