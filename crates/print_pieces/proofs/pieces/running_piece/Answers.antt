use Rattle.check_accepted.specs.Texts.{bodies_in}
use Rattle.print_pieces.specs.Stages.{text_short, told_steps, line_small, running_next}
use native.Mathlib.Omega.{arith}
use Rattle.print_pieces.proofs.pieces.running_piece.Goals as goal

pub steps_until-r-requires-clause-run_of : goal.steps_until-r-requires-clause-run_of
steps_until-r-requires-clause-run_of c = c.requires.running_in.run

pub steps_until-r-requires-clause-well_formed : goal.steps_until-r-requires-clause-well_formed
steps_until-r-requires-clause-well_formed c = c.requires.running_in.formed

pub steps_until-r-requires-clause-bodies : goal.steps_until-r-requires-clause-bodies
steps_until-r-requires-clause-bodies c = bodies_in c.requires.running_in.text

pub told_piece-requires : goal.told_piece-requires
told_piece-requires c = (omega (arith, c.requires.piece_bytes_in_bounds, text_short _ _ c.requires.running_in.text), told_steps _ _ _ _ _ c.requires.running_in c.steps_until-r.ensures, line_small _ _ _ _ _ c.requires.running_in)

pub returns : goal.returns
returns c =
    running_next _ _ _ _ _ c.requires.running_in
    c.steps_until-r.ensures c.told_piece.ensures
