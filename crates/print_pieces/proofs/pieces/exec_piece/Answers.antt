use Rattle.run_steps.specs.Dispatch.{small_signatures}
use Rattle.check_accepted.specs.Texts.{tables_in, bodies_in}
use Rattle.print_pieces.specs.Stages.{text_short, exec_none, exec_begun, exec_empty}
use native.Mathlib.Omega.{arith}
use Rattle.print_pieces.proofs.pieces.exec_piece.Goals as goal

pub exec_count-requires : goal.exec_count-requires
exec_count-requires c = (tables_in c.requires.text_in).area

pub returns-then-exec_count-line : goal.returns-then-exec_count-line
returns-then-exec_count-line c = exec_none _ _ c.requires.text_in _ _ _ (omega (arith, c.exec_count.ensures, c.if-exec_count-line.true))

pub begin_line-requires-clause-tables : goal.begin_line-requires-clause-tables
begin_line-requires-clause-tables c = tables_in c.requires.text_in

pub begin_line-requires-clause-run_words_in_bounds : goal.begin_line-requires-clause-run_words_in_bounds
begin_line-requires-clause-run_words_in_bounds c = c.requires.run_words_in_bounds.0

pub begin_line-requires-clause-small_signatures : goal.begin_line-requires-clause-small_signatures
begin_line-requires-clause-small_signatures c = small_signatures (bodies_in c.requires.text_in)

pub exec_at-at-requires : goal.exec_at-at-requires
exec_at-at-requires c = ((tables_in c.requires.text_in).area, omega (arith, c.exec_count.ensures, c.if-exec_count-line.false, (tables_in c.requires.text_in).within))

pub put_header-length-requires : goal.put_header-length-requires
put_header-length-requires c = omega (arith, c.requires.run_words_in_bounds.1, text_short _ _ c.requires.text_in)

pub returns-then-begin_line : goal.returns-then-begin_line
returns-then-begin_line c =
    exec_begun _ _ c.requires.text_in _ _ (omega (arith, c.exec_count.ensures, c.if-exec_count-line.false)) c.exec_at-at.ensures
    c.begin_line.ensures c.if-begin_line.true c.put_header-length.ensures

pub returns : goal.returns
returns c = exec_empty _ _ c.requires.text_in _ (omega (arith, c.exec_count.ensures, c.if-exec_count-line.false)) c.begin_line.ensures c.if-begin_line.false _
