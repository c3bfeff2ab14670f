use Rattle.print_pieces.specs.Stages.{wrote}
use Rattle.print_pieces.proofs.pieces.ended_piece.Goals as goal

pub returns : goal.returns
returns c = wrote _ c.put_ending-length.ensures
