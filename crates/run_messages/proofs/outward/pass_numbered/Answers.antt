use Rattle.run_words.specs.Values.{process_in}
use Rattle.run_words.specs.Operations.{retyped}
use mathlib.Core.Path.{sym, ◌∙◌}
use native.Mathlib.Omega.{arith}
use Rattle.run_messages.specs.Outward.{out_moved, passes_numbered, given_kept, outside_kept}
use Rattle.run_alone.specs.Changes.{stored, bounded_of}
use Rattle.read_tables.specs.Access.{node_there}
use Rattle.run_messages.proofs.outward.pass_numbered.Goals as goal

pub store-requires-clause-bounded_process : goal.store-requires-clause-bounded_process
store-requires-clause-bounded_process c = bounded_of c.args.text.now c.args.scratch.now c.requires.sending_in.after

pub number_out-requires-clause-run_of : goal.number_out-requires-clause-run_of
number_out-requires-clause-run_of c =
    let left = c.after_message-left in
    let text = c.args.text.now in
    let scratch = c.args.scratch.now in
    let run = c.args.run.now in
    let sent = c.args.sent in
    (out_moved text scratch run sent c.args.o.number _ (stored text scratch run _ c.requires.run_of sent.place sent.after c.requires.sending_in.after c.store.ensures.changed c.store.ensures.still_bounded)
    c.requires.outside_in.0 left.ensures _ c.retype_outside.ensures.changed c.retype_outside.ensures.still_bounded).run

pub number_out-requires-clause-m_value : goal.number_out-requires-clause-m_value
number_out-requires-clause-m_value c =
    let left = c.after_message-left in
    let sent = c.args.sent in (
      c.requires.m_value.0 ∙ sym (given_kept sent.place (process_in sent.after) sent.over.channel (retyped left.result) c.store.ensures.changed c.retype_outside.ensures.changed),
      c.requires.m_value.1,
      omega (arith, outside_kept sent.place (process_in sent.after) sent.over.channel (retyped left.result) c.store.ensures.changed c.retype_outside.ensures.changed, c.requires.m_value.2),
    )

pub returns : goal.returns
returns c =
    let text = c.args.text.now in
    let scratch = c.args.scratch.now in
    let run = c.args.run.now in
    let sent = c.args.sent in
    let number = c.args.o.number in
    passes_numbered text scratch run sent number c.requires.outside_in.0 c.args.d c.came_over-what.ensures _ _
    c.args.gone c.args.m c.requires.outside_in.1 c.requires.m_value.0
    (out_moved text scratch run sent number _ (stored text scratch run _ c.requires.run_of sent.place sent.after c.requires.sending_in.after c.store.ensures.changed c.store.ensures.still_bounded) c.requires.outside_in.0
    c.after_message-left.ensures _ c.retype_outside.ensures.changed
    c.retype_outside.ensures.still_bounded)
    c.number_out.ensures
