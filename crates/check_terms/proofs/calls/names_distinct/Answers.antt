use Rattle.check_terms.specs.Calls.{not_distinct_first, not_apart, distinct_last}
use Rattle.check_terms.proofs.calls.names_distinct.Goals as goal
use Rattle.check_terms.proofs.calls.names_distinct.Goals.{then-list_distinct, else-list_distinct}

pub returns-else-lists_apart : goal.returns-else-lists_apart
returns-else-lists_apart c =
    rw c.if-lists_apart.false
    (elim c.if-list_distinct.branch [
      | then-list_distinct w ↦ not_apart w.if-list_distinct.ensures (rw (← w.value-is, c.if-lists_apart.false) at w.lists_apart.ensures)
      | else-list_distinct w ↦ not_distinct_first w.if-list_distinct.ensures
    ])

pub returns-then-lists_apart : goal.returns-then-lists_apart
returns-then-lists_apart c =
    elim c.if-list_distinct.branch [
      | then-list_distinct w ↦
          distinct_last w.if-list_distinct.ensures (rw (← w.value-is, c.if-lists_apart.true) at w.lists_apart.ensures) c.list_distinct-then-lists_apart.ensures
      | else-list_distinct w ↦ cc
    ]
