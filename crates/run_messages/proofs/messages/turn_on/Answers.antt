use Rattle.run_messages.specs.Messages.{turn_idle, turn_named}
use Rattle.run_messages.proofs.messages.turn_on.Goals as goal

pub returns-in_err-n : goal.returns-in_err-n
returns-in_err-n c = let a = c.args in rw c.from_residual.ensures (turn_idle a.text.now a.scratch.now a.x a.kind a.pointer c.requires.process_in c.requires.tables c.in_err-n.ensures)

pub returns : goal.returns
returns c = let a = c.args in rw c.then_some.ensures (turn_named a.text.now a.scratch.now a.x a.kind a.pointer c.requires.process_in c.requires.tables c.in_ok-n.n c.in_ok-n.ensures _ c.names_equal.ensures)
