use Rattle.std.proofs.Common.{refl}
use Rattle.print_pieces.specs.Stages.{first_fine, first_refused}
use Rattle.print_pieces.proofs.pieces.first_piece.Goals as goal

pub returns-in-Ok : goal.returns-in-Ok
returns-in-Ok c = first_fine _ _ _ _ c.in-Ok.ensures c.requires.0 refl _

pub returns-in-Err : goal.returns-in-Err
returns-in-Err c = first_refused _ _ _ _ c.in-Err.ensures c.requires.0 c.in-Err.refusal refl c.put_refusal.ensures
