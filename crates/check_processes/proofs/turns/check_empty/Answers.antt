use Rattle.std.specs.Prelude.{Ok}
use Rattle.notation.specs.Refusals.{refuses}
use Rattle.check_processes.specs.Turns.{turned_given}
use Rattle.check_processes.specs.Process.{empty_fine, empty_left}
use Rattle.check_processes.proofs.turns.check_empty.Goals as goal

pub returns-then-h-eq0 : goal.returns-then-h-eq0
returns-then-h-eq0 c =
    let fine = empty_fine _ _ c.args.h _ c.requires.0 c.requires.1 c.requires.2 c.if-h-eq0.true in
    rw c.done.ensures (turned_given (Ok tt) fine)

pub returns : goal.returns
returns c =
    let left = empty_left _ _ c.args.h _ c.requires.0 c.requires.1 c.requires.2 c.if-h-eq0.false in
    rw c.refused.ensures (turned_given (refuses 13 _) left)
