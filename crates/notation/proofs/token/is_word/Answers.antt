use native.Mathlib.Nat.{add-sub_cancel_left}
use native.Mathlib.Omega.{arith}
use mathlib.Core.Path.{◌∙◌}
use Rattle.notation.proofs.Scans.{same_pointwise}
use Rattle.notation.proofs.ByteTables.{table_long, table_row, table_word}
use Rattle.notation.proofs.token.is_word.Goals as goal

pub bounds-table-row : goal.bounds-table-row
bounds-table-row c = omega (arith, table_long c.args.table.now c.requires.1, c.requires.0)

pub overflow_add-to : goal.overflow_add-to
overflow_add-to c = omega (arith, table_row c.args.table.now c.requires.1 c.args.k c.requires.0, c.requires.0)

pub slice_bounds-eq-end : goal.slice_bounds-eq-end
slice_bounds-eq-end c = omega (arith, table_row c.args.table.now c.requires.1 c.args.k c.requires.0, table_long c.args.table.now c.requires.1, c.requires.0)

pub returns : goal.returns
returns c = rw (add-sub_cancel_left, table_word c.args.table.now c.requires.1 c.args.k c.requires.0) at (let h = c.eq.ensures in h ∙ same_pointwise c.args.w.now _)
