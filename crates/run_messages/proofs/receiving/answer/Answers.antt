use native.Mathlib.Omega.{arith}
use Rattle.run_messages.specs.Receiving.{send_parts, answers_not, answers}
use Rattle.run_messages.proofs.receiving.answer.Goals as goal

pub returns-in_default : goal.returns-in_default
returns-in_default c =
    let from = c.in_default.ensures in
    let f = from.party in
    record { is = λ i p n e z. answers_not c.args.text.now c.args.scratch.now c.args.run.now i p n e _ _ f.process f.term (from.is.far e z) from.is.turn (λ a b. omega (arith, a, from.idle)) }

pub send-requires-clause-send_node : goal.send-requires-clause-send_node
send-requires-clause-send_node c = send_parts c.args.text.now c.args.scratch.now _ (omega arith) (omega arith) c.in-Some.ensures.turn.parts

pub returns : goal.returns
returns c =
    let from = c.in-Some.ensures in
    let f = c.in-Some.from in
    record { is = λ i p n e z. answers c.args.text.now c.args.scratch.now c.args.run.now i p n e _ _ f.process f.term (from.far e z) from.turn (omega arith) (omega arith) c.send.ensures }
