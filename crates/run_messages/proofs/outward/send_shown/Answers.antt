use mathlib.Core.Path.{◌≡◌}
use native.Mathlib.Omega.{arith}
use Rattle.run_messages.specs.Outward.{out_close, out_label}
use Rattle.run_alone.specs.Changes.{stored, bounded_of}
use Rattle.read_tables.specs.Access.{node_there}
use Rattle.run_messages.proofs.outward.send_shown.Goals as goal

pub store-requires-clause-bounded_process : goal.store-requires-clause-bounded_process
store-requires-clause-bounded_process c = bounded_of c.args.text.now c.args.scratch.now c.requires.sending_in.after

pub returns-then-n-eq-SEND_UNIT : goal.returns-then-n-eq-SEND_UNIT
returns-then-n-eq-SEND_UNIT c =
    let run = c.args.run.now in
    let sent = c.args.sent in
    out_close c.args.text.now c.args.scratch.now run sent c.args.o.number _
    (stored c.args.text.now c.args.scratch.now run _ c.requires.run_of sent.place sent.after c.requires.sending_in.after c.store.ensures.changed c.store.ensures.still_bounded) _
    c.if-n-eq-SEND_UNIT.true c.let_go.ensures.changed c.let_go.ensures.still_bounded

pub returns : goal.returns
returns c =
    let run = c.args.run.now in
    let sent = c.args.sent in
    let z : sent.term.kind ≡ 3 = omega (arith, c.requires.sending_in.node.low, c.requires.sending_in.node.high, c.requires.fact, c.if-n-eq-SEND_UNIT.false) in
    out_label c.args.text.now c.args.scratch.now run sent c.args.o.number _
    (stored c.args.text.now c.args.scratch.now run _ c.requires.run_of sent.place sent.after c.requires.sending_in.after c.store.ensures.changed c.store.ensures.still_bounded) c.requires.outside_in
    c.after_message-node.ensures _ z c.retype_outside.ensures.changed c.retype_outside.ensures.still_bounded
