use Rattle.check_terms.specs.Calls.{not_held_first, held_last}
use Rattle.check_terms.proofs.calls.lists_held.Goals as goal

pub returns-else-list_held : goal.returns-else-list_held
returns-else-list_held c = rw c.if-list_held.false (not_held_first c.if-list_held.ensures)

pub returns-then-list_held : goal.returns-then-list_held
returns-then-list_held c = held_last c.if-list_held.ensures c.list_held-then-list_held.ensures
