use Rattle.run_messages.specs.Sending.{unheard_none, unheard_parts, unheard_goes}
use Rattle.run_alone.specs.Changes.{stored, bounded_of}
use Rattle.run_alone.specs.Parting.{end_found_lem}
use Rattle.run_messages.proofs.sending.send_unheard.Goals as goal

pub store-requires-clause-bounded_process : goal.store-requires-clause-bounded_process
store-requires-clause-bounded_process c = bounded_of c.args.text.now c.args.scratch.now c.requires.sending_in.after

pub returns-then-n-ne-SEND_CHANNEL : goal.returns-then-n-ne-SEND_CHANNEL
returns-then-n-ne-SEND_CHANNEL c =
    unheard_goes c.args.text.now c.args.scratch.now c.args.run.now c.args.sent c.requires.sending_in.node.low c.requires.sending_in.node.high c.if-n-ne-SEND_CHANNEL.true
    (stored c.args.text.now c.args.scratch.now c.args.run.now _ c.requires.run_of c.args.sent.place c.args.sent.after c.requires.sending_in.after c.store.ensures.changed
    c.store.ensures.still_bounded)

pub part-requires-clause-side_lt_side_radix : goal.part-requires-clause-side_lt_side_radix
part-requires-clause-side_lt_side_radix c =
    (end_found_lem {w = c.args.scratch.now} c.find_end.ensures c.in-Some.is
    c.requires.sending_in.stands.is.held).1
