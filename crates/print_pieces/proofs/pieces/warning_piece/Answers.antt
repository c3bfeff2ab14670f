use Rattle.check_accepted.specs.Texts.{tables_in, typed_in_lem}
use Rattle.print_pieces.specs.Stages.{text_short}
use Rattle.print_pieces.specs.Warned.{warning_none, number_few, warning_told}
use native.Mathlib.Omega.{arith}
use Rattle.print_pieces.proofs.pieces.warning_piece.Goals as goal

pub warning-requires : goal.warning-requires
warning-requires c = (tables_in c.requires.text_in, typed_in_lem c.requires.text_in)

pub put_named-requires : goal.put_named-requires
put_named-requires c = omega (arith, c.requires.piece_bytes_in_bounds, text_short _ _ c.requires.text_in)

pub overflow_add-result : goal.overflow_add-result
overflow_add-result c = omega (arith, number_few _ _ c.requires.text_in c.args.k c.in-Some.missing c.in-Some.ensures)

pub returns-in-Some : goal.returns-in-Some
returns-in-Some c = warning_told _ _ c.requires.text_in c.args.k c.in-Some.missing c.in-Some.ensures c.put_named.ensures.appended

pub returns-in-None : goal.returns-in-None
returns-in-None c = warning_none _ _ c.requires.text_in c.args.k c.in-None.ensures _
