use Rattle.print_pieces.specs.Stages.{text_short, next_as, next_none, going_warning, going_channel, going_label, going_exec, going_running}
use Rattle.print_pieces.specs.Warned.{channel_told, label_told}
use native.Mathlib.Omega.{arith}
use Rattle.print_pieces.proofs.pieces.next_piece.Goals as goal

pub warning_piece-requires-clause-text_in : goal.warning_piece-requires-clause-text_in
warning_piece-requires-clause-text_in c = going_warning _ c.in-Warning.is c.requires.going

pub warning_piece-requires-clause-piece_bytes_in_bounds : goal.warning_piece-requires-clause-piece_bytes_in_bounds
warning_piece-requires-clause-piece_bytes_in_bounds c = c.requires.run_words_in_bounds.1

pub returns-in-Warning : goal.returns-in-Warning
returns-in-Warning c = next_as c.in-Warning.is (c.warning_piece.ensures.is _)

pub channel_piece-requires : goal.channel_piece-requires
channel_piece-requires c = omega (arith, c.requires.run_words_in_bounds.1, text_short _ _ (going_channel _ _ _ c.in-Channel.is c.requires.going))

pub returns-in-Channel : goal.returns-in-Channel
returns-in-Channel c = next_as c.in-Channel.is ((channel_told _ _ (going_channel _ _ _ c.in-Channel.is c.requires.going) _ _ _ c.channel_piece.ensures).is _)

pub label_piece-requires : goal.label_piece-requires
label_piece-requires c = omega (arith, c.requires.run_words_in_bounds.1, text_short _ _ (going_label _ _ c.in-Label.is c.requires.going))

pub returns-in-Label : goal.returns-in-Label
returns-in-Label c = next_as c.in-Label.is ((label_told _ _ (going_label _ _ c.in-Label.is c.requires.going) _ _ c.label_piece.ensures).is _)

pub exec_piece-requires-clause-text_in : goal.exec_piece-requires-clause-text_in
exec_piece-requires-clause-text_in c = going_exec _ c.in-Exec.is c.requires.going

pub exec_piece-requires-clause-run_words_in_bounds : goal.exec_piece-requires-clause-run_words_in_bounds
exec_piece-requires-clause-run_words_in_bounds c = c.requires.run_words_in_bounds

pub returns-in-Exec : goal.returns-in-Exec
returns-in-Exec c = next_as c.in-Exec.is c.exec_piece.ensures

pub running_piece-requires-clause-running_in : goal.running_piece-requires-clause-running_in
running_piece-requires-clause-running_in c = going_running _ _ c.in-Running.is c.requires.going

pub running_piece-requires-clause-piece_bytes_in_bounds : goal.running_piece-requires-clause-piece_bytes_in_bounds
running_piece-requires-clause-piece_bytes_in_bounds c = c.requires.run_words_in_bounds.1

pub returns-in-Running : goal.returns-in-Running
returns-in-Running c = next_as c.in-Running.is c.running_piece.ensures

pub returns-in-Finished : goal.returns-in-Finished
returns-in-Finished c = next_none _ _ _ _ c.in-Finished.is
