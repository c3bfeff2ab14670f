use native.Mathlib.Omega.{arith}
use mathlib.Core.Path.{sym, ◌∙◌}
use Rattle.check_contexts.specs.Walks.{walk_start, walk_on, Whatever, ends_there, forward_name}
use Rattle.check_contexts.proofs.names.list_end.Goals as goal

pub loop-past-init : goal.loop-past-init
loop-past-init c = walk_start _ _ _ (λ xs. tt)

pub loop-past-smaller : goal.loop-past-smaller
loop-past-smaller c = omega (arith, forward_name _ _ _ _ _ c.next_argument.ensures.forward c.in-Name.is)

pub loop-past-preserved : goal.loop-past-preserved
loop-past-preserved c = walk_on c.loop-past.invariant _ _ Whatever (sym c.next_argument.ensures.value ∙ c.in-Name.is) (λ xs ys rest o r. tt)

pub returns-in-End : goal.returns-in-End
returns-in-End c = ends_there c.loop-past.invariant _ (sym c.next_argument.ensures.value ∙ c.in-End.is)
