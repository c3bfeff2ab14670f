use Rattle.std.proofs.Common.{sym, ◌∙◌}
use Rattle.print_output.specs.Gathering.{due_first, due_none, writes_run, writes_refused}
use Rattle.print_output.proofs.text.print_all.Goals as goal

pub write_due-requires-clause-due : goal.write_due-requires-clause-due
write_due-requires-clause-due g c = due_first c.first_piece-p.ensures _

pub print_rest-requires-clause-going : goal.print_rest-requires-clause-going
print_rest-requires-clause-going g c = c.first_piece-p.ensures.going _

pub print_rest-requires-clause-due : goal.print_rest-requires-clause-due
print_rest-requires-clause-due g c = due_none (due_first c.first_piece-p.ensures _)

pub returns-then-is_left-clause-writes : goal.returns-then-is_left-clause-writes
returns-then-is_left-clause-writes g c = writes_run _ _ c.first_piece-p.ensures c.in_ok-write_due.ensures c.in_ok-print_rest.ensures

pub returns-clause-writes : goal.returns-clause-writes
returns-clause-writes g c = writes_refused c.first_piece-p.ensures (sym c.is_left.ensures ∙ c.if-is_left.false) c.in_ok-write_due.ensures
