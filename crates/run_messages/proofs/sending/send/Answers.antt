use native.Mathlib.Omega.{arith}
use Rattle.run_messages.specs.Sending.{sends_nothing, sends_on}
use Rattle.run_alone.specs.Changes.{runs_on, pointer_small}
use Rattle.run_alone.specs.Parting.{end_found_lem}
use Rattle.run_words.specs.Values.{running_on}
use mathlib.Core.Path.{refl}
use Rattle.run_messages.proofs.sending.send.Goals as goal

pub returns-in_default : goal.returns-in_default
returns-in_default c = sends_nothing c.args.text.now c.args.scratch.now c.args.run.now c.args.place c.args.p c.args.n c.find_end.ensures c.in_default.is

pub overflow_cast-after : goal.overflow_cast-after
overflow_cast-after c = omega (arith, pointer_small c.args.text.now c.args.scratch.now _ c.requires.run_of.tables c.requires.send_node.1)

pub deliver-requires-clause-sending_in : goal.deliver-requires-clause-sending_in
deliver-requires-clause-sending_in c =
    let held = c.after_send-held in
    record {
      stands = c.requires.stands_at;
      after = runs_on c.requires.run_of.tables (running_on c.args.n.third held.result c.args.p) refl c.requires.stands_at.is.link c.requires.send_node.1 held.ensures.fits;
      node = c.requires.send_node.0;
    }

pub deliver-requires-clause-side_lt_side_radix : goal.deliver-requires-clause-side_lt_side_radix
deliver-requires-clause-side_lt_side_radix c =
    (end_found_lem {w = c.args.scratch.now} c.find_end.ensures c.in-Some.is
    c.requires.stands_at.is.held).1

pub returns : goal.returns
returns c =
    sends_on c.args.text.now c.args.scratch.now c.args.run.now c.args.place c.args.p c.args.n
    c.find_end.ensures c.in-Some.is
    c.after_send-held.ensures c.deliver.ensures
