use borrow.Author.Tests.{eq-eqb, ne_eqb}
use Rattle.check_processes.specs.Nodes.{end_step}
use Rattle.check_processes.proofs.rules.check_end.Goals as goal

pub check_forward-requires : goal.check_forward-requires
check_forward-requires c = c.requires.tables

pub returns-then-n-eq-FWD : goal.returns-then-n-eq-FWD
unfolding end_step
returns-then-n-eq-FWD c = rw (eq-eqb _ _ c.if-n-eq-FWD.true) c.check_forward.ensures

pub check_call-requires-clause-tables : goal.check_call-requires-clause-tables
check_call-requires-clause-tables c = c.requires.tables

pub check_call-requires-clause-call_at : goal.check_call-requires-clause-call_at
check_call-requires-clause-call_at c = c.requires.call_at c.if-n-eq-FWD.false

pub returns : goal.returns
unfolding end_step
returns c = rw (ne_eqb _ _ c.if-n-eq-FWD.false) c.check_call.ensures
