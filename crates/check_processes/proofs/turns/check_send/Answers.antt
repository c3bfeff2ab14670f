use native.Mathlib.Omega.{arith}
use Rattle.check_terms.specs.Next.{context_in}
use Rattle.check_processes.specs.Turns.{turned_after}
use Rattle.check_processes.specs.Nodes.{cancel_at, send_at}
use Rattle.check_processes.specs.Process.{some_kind}
use Rattle.check_processes.proofs.turns.check_send.Goals as goal

pub returns-then-n-eq-CANCEL : goal.returns-then-n-eq-CANCEL
returns-then-n-eq-CANCEL c =
    let cancels = cancel_at _ _ _ c.args.n c.requires.2 c.if-n-eq-CANCEL.true in
    rw c.after.ensures (turned_after _ _ _ c.cancel_next-x.ensures (cancels.1 (context_in c.args.text.now c.args.scratch.now c.args.h)) cancels.0)

pub returns : goal.returns
returns c =
    let sends = send_at _ _ _ c.args.n c.requires.2 (some_kind _ _ _ c.args.n c.requires.2) (omega (arith, c.requires.3, c.if-n-eq-CANCEL.false)) in
    rw c.after-2.ensures (turned_after _ _ _ c.send_next-x.ensures (sends.1 (context_in c.args.text.now c.args.scratch.now c.args.h)) sends.0)
