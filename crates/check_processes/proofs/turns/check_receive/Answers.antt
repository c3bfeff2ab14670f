use Prim.Native.Nat.{◌≤◌}
use native.Mathlib.Omega.{arith}
use Rattle.check_terms.specs.Next.{context_in}
use Rattle.check_processes.specs.Nodes.{receive_at}
use Rattle.check_processes.specs.Turns.{turned_choosing, turned_after}
use Rattle.check_processes.proofs.turns.check_receive.Goals as goal

pub returns-then-n-eq-RECV_LABEL : goal.returns-then-n-eq-RECV_LABEL
returns-then-n-eq-RECV_LABEL c = turned_choosing _ c.requires.1 c.requires.2 c.if-n-eq-RECV_LABEL.true

pub receive_one-x-requires : goal.receive_one-x-requires
receive_one-x-requires c =
    let most : c.args.n.kind ≤ 7 = omega (arith, c.requires.4, c.if-n-eq-RECV_LABEL.false) in
    (c.requires.0, c.requires.1, (receive_at _ _ _ c.args.n c.requires.2 c.requires.3 most).1, c.requires.3, most)

pub returns : goal.returns
returns c =
    let receives = receive_at _ _ _ c.args.n c.requires.2 c.requires.3 (omega (arith, c.requires.4, c.if-n-eq-RECV_LABEL.false)) in
    rw c.after.ensures (turned_after _ _ _ c.receive_one-x.ensures (receives.2 (context_in c.args.text.now c.args.scratch.now c.args.h)) receives.0)
