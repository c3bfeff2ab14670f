use Rattle.check_contexts.specs.Walks.{remaining_start, remaining_on, remaining_end, forward_name}
use native.Mathlib.Omega.{arith}
use mathlib.Core.Path.{sym, ◌∙◌}
use Rattle.check_contexts.proofs.names.mark_list.Goals as goal

pub loop-there-init : goal.loop-there-init
loop-there-init c = remaining_start _ _ _ _ _ _

pub loop-there-smaller : goal.loop-there-smaller
loop-there-smaller c = omega (arith, forward_name _ _ _ _ _ c.next_argument.ensures.forward c.in-Name.is)

pub loop-there-preserved : goal.loop-there-preserved
loop-there-preserved c = remaining_on c.loop-there.invariant _ _ (sym c.next_argument.ensures.value ∙ c.in-Name.is) c.mark_name-marks.ensures

pub returns-in-End : goal.returns-in-End
returns-in-End c = remaining_end c.loop-there.invariant _ (sym c.next_argument.ensures.value ∙ c.in-End.is)
