use mathlib.Core.Path.{sym}
use Rattle.run_messages.specs.Outward.{sends_out, out_number, outside_own}
use Rattle.run_alone.specs.Parting.{outside_there_below}
use Rattle.run_messages.specs.Room.{outside_few}
use Rattle.run_messages.proofs.outward.send_out.Goals as goal

pub outside_at-o-requires-clause-k_in_bounds : goal.outside_at-o-requires-clause-k_in_bounds
outside_at-o-requires-clause-k_in_bounds c = outside_there_below c.args.text.now c.args.scratch.now c.args.run.now c.args.sent.over c.args.k c.requires.over_value

pub pass_out-requires-clause-outside_in : goal.pass_out-requires-clause-outside_in
pass_out-requires-clause-outside_in c =
    outside_own c.args.text.now c.args.scratch.now c.args.run.now c.args.sent.over c.args.k _ c.requires.run_of (sym c.requires.over_value)
    c.outside_at-o.ensures.k_value

pub pass_out-requires-clause-run_len_bound : goal.pass_out-requires-clause-run_len_bound
pass_out-requires-clause-run_len_bound c = outside_few c.args.text.now c.args.scratch.now c.args.run.now c.requires.well_formed

pub send_shown-requires-clause-outside_in : goal.send_shown-requires-clause-outside_in
send_shown-requires-clause-outside_in c =
    outside_own c.args.text.now c.args.scratch.now c.args.run.now c.args.sent.over c.args.k _ c.requires.run_of (sym c.requires.over_value)
    c.outside_at-o.ensures.k_value

pub returns-then-sent-eq-SEND_CHANNEL : goal.returns-then-sent-eq-SEND_CHANNEL
returns-then-sent-eq-SEND_CHANNEL c =
    sends_out c.args.text.now c.args.scratch.now c.args.run.now c.args.sent _
    (out_number c.args.text.now c.args.scratch.now c.args.run.now c.args.sent.over c.args.k c.outside_at-o.result
    (sym c.requires.over_value) c.outside_at-o.ensures.k_value) c.pass_out.ensures

pub returns-else-sent-eq-SEND_CHANNEL : goal.returns-else-sent-eq-SEND_CHANNEL
returns-else-sent-eq-SEND_CHANNEL c =
    sends_out c.args.text.now c.args.scratch.now c.args.run.now c.args.sent _
    (out_number c.args.text.now c.args.scratch.now c.args.run.now c.args.sent.over c.args.k c.outside_at-o.result
    (sym c.requires.over_value) c.outside_at-o.ensures.k_value) c.send_shown.ensures
