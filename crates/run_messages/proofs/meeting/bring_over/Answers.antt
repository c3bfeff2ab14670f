use native.Mathlib.Omega.{arith}
use Rattle.run_messages.specs.Meeting.{brings_unheld, brings_nothing, brings_over, found_in}
use Rattle.read_tables.specs.Access.{node_there}
use Rattle.run_messages.proofs.meeting.bring_over.Goals as goal

pub returns : goal.returns
returns c =
    brings_over c.args.text.now c.args.scratch.now c.args.h c.requires.held_in.0 c.args.own c.args.passed c.args.at
    c.in-Some.is c.in-Some-passed.is c.came_over-node.ensures
    c.bring_end.ensures
