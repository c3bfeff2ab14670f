use mathlib.Core.Path.{sym}
use mathlib.Core.Bool.{true, false}
use native.Mathlib.Omega.{arith}
use Rattle.check_contexts.specs.Walks.{forward_name}
use Rattle.check_terms.specs.Lists.{every_end, every_not, every_on}
use Rattle.check_terms.proofs.calls.every_name.Goals as goal

pub returns : goal.returns
returns g c = c.loop-x.invariant true (every_end (sym c.in_default.ensures.value))

pub returns-then-not-test : goal.returns-then-not-test
returns-then-not-test g c = c.loop-x.invariant false (every_not (sym c.in-Name.ensures.value) c.if-not-test.ensures)

pub loop-x-smaller : goal.loop-x-smaller
loop-x-smaller g c = omega (arith, forward_name _ _ _ _ _ c.next_argument.ensures.forward c.in-Name.is)

pub loop-x-preserved : goal.loop-x-preserved
loop-x-preserved g c = λ r u. c.loop-x.invariant r (every_on (sym c.in-Name.ensures.value) c.if-not-test.ensures u)
