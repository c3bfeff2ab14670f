use Rattle.print_pieces.specs.Stages.{wrote, told_as_lem}
use native.Mathlib.Omega.{arith}
use mathlib.Core.Path.{ap}
use Rattle.theory_progress.specs.RunOn.{given}
use Rattle.print_pieces.proofs.pieces.told_piece.Goals as goal

pub returns-in-Shown : goal.returns-in-Shown
returns-in-Shown c = told_as_lem _ _ _ c.in-Shown.is (wrote _ c.put_sighting.ensures)

pub overflow_add-taken : goal.overflow_add-taken
overflow_add-taken c = omega (arith, c.requires.1, ap given c.in-Done.is)

pub returns-in-Done : goal.returns-in-Done
returns-in-Done c = told_as_lem _ _ _ c.in-Done.is c.ended_piece.ensures

pub overflow_add-taken-in-Full : goal.overflow_add-taken-in-Full
overflow_add-taken-in-Full c = omega (arith, c.requires.1, ap given c.in-Full.is)

pub returns-in-Full : goal.returns-in-Full
returns-in-Full c = told_as_lem _ _ _ c.in-Full.is c.ended_piece-in-Full.ensures

pub overflow_add-taken-in-Stopped : goal.overflow_add-taken-in-Stopped
overflow_add-taken-in-Stopped c = omega (arith, c.requires.1, ap given c.in-Stopped.is)

pub returns-in-Stopped : goal.returns-in-Stopped
returns-in-Stopped c = told_as_lem _ _ _ c.in-Stopped.is c.ended_piece-in-Stopped.ensures

pub overflow_add-taken-in-Uncaught : goal.overflow_add-taken-in-Uncaught
overflow_add-taken-in-Uncaught c = omega (arith, c.requires.1, ap given c.in-Uncaught.is)

pub returns-in-Uncaught : goal.returns-in-Uncaught
returns-in-Uncaught c = told_as_lem _ _ _ c.in-Uncaught.is c.ended_piece-in-Uncaught.ensures
