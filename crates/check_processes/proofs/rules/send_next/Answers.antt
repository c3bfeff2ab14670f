use native.Mathlib.Omega.{arith}
use borrow.Author.Tests.{eq-eqb, ne_eqb}
use Rattle.check_processes.specs.Nodes.{send_step}
use Rattle.check_processes.proofs.rules.send_next.Goals as goal

pub close_next-requires : goal.close_next-requires
close_next-requires c = (c.requires.0, c.requires.1, omega arith)

pub returns-then-n-eq-SEND_UNIT : goal.returns-then-n-eq-SEND_UNIT
unfolding send_step
returns-then-n-eq-SEND_UNIT c = rw (eq-eqb _ _ c.if-n-eq-SEND_UNIT.true) c.close_next.ensures

pub pass_next-requires : goal.pass_next-requires
pass_next-requires c = c.requires

pub returns-then-n-eq-SEND_CHANNEL : goal.returns-then-n-eq-SEND_CHANNEL
unfolding send_step
returns-then-n-eq-SEND_CHANNEL c = rw (ne_eqb _ _ c.if-n-eq-SEND_UNIT.false, eq-eqb _ _ c.if-n-eq-SEND_CHANNEL.true) c.pass_next.ensures

pub choose_next-requires : goal.choose_next-requires
choose_next-requires c = c.requires

pub returns : goal.returns
unfolding send_step
returns c = rw (ne_eqb _ _ c.if-n-eq-SEND_UNIT.false, ne_eqb _ _ c.if-n-eq-SEND_CHANNEL.false) c.choose_next.ensures
