use mathlib.Core.Path.{sym}
use Rattle.check_terms.specs.Next.{context_in}
use Rattle.check_processes.specs.Turns.{turned_onward}
use Rattle.check_processes.specs.Nodes.{raise_at}
use Rattle.check_processes.proofs.turns.check_ending.Goals as goal

pub returns-then-n-le-CALL : goal.returns-then-n-le-CALL
returns-then-n-le-CALL c = c.check_last.ensures

pub returns-then-n-eq-RAISE : goal.returns-then-n-eq-RAISE
returns-then-n-eq-RAISE c =
    let raises = raise_at _ _ _ c.args.n c.requires.2 c.if-n-eq-RAISE.true in
    rw c.goes_on.ensures
    (turned_onward _ _ (sym (raises.1 (context_in c.args.text.now c.args.scratch.now c.args.h))) c.requires.1 raises.0.1 raises.0.0)

pub returns : goal.returns
returns c = c.check_try.ensures
