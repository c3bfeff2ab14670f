use native.Mathlib.Omega.{arith}
use borrow.Author.Tests.{eq-eqb, ne_eqb}
use Rattle.check_processes.specs.Nodes.{receive_step}
use Rattle.check_processes.proofs.rules.receive_one.Goals as goal

pub close_next-requires : goal.close_next-requires
close_next-requires c = (c.requires.0, c.requires.1, omega arith)

pub returns-then-n-eq-RECV_UNIT : goal.returns-then-n-eq-RECV_UNIT
unfolding receive_step
returns-then-n-eq-RECV_UNIT c = rw (eq-eqb _ _ c.if-n-eq-RECV_UNIT.true) c.close_next.ensures

pub receive_next-requires : goal.receive_next-requires
receive_next-requires c = (c.requires.0, c.requires.1, c.requires.2 (omega (arith, c.requires.3, c.requires.4, c.if-n-eq-RECV_UNIT.false)))

pub returns : goal.returns
unfolding receive_step
returns c = rw (ne_eqb _ _ c.if-n-eq-RECV_UNIT.false) c.receive_next.ensures
