use native.Mathlib.Omega.{arith}
use Rattle.check_terms.specs.Acting.{takes_nothing, takes_own_end, takes_by}
use Rattle.check_terms.proofs.acting.takes_from.Goals as goal

pub passing-requires : goal.passing-requires
passing-requires c = (c.requires.0, omega (arith, c.requires.1, c.wide.ensures.value))

pub returns-in_err-t : goal.returns-in_err-t
returns-in_err-t c = rw c.from_residual.ensures (takes_nothing _ _ c.wide.ensures.value c.in_err-t.ensures)

pub returns-then-c-t : goal.returns-then-c-t
returns-then-c-t c = takes_own_end _ _ c.wide.ensures.value c.in_ok-t.t c.in_ok-t.ensures c.requires.2 c.if-c-t.true

pub returns : goal.returns
returns c = takes_by _ _ c.wide.ensures.value c.in_ok-t.t c.in_ok-t.ensures c.requires.2 c.if-c-t.false
