use native.Mathlib.Omega.{arith}
use Rattle.run_messages.specs.Messages.{sent_close, sent_channel, sent_label}
use Rattle.run_messages.proofs.messages.after_send.Goals as goal

pub move_on-requires-in_default-clause-held_in : goal.move_on-requires-in_default-clause-held_in
move_on-requires-in_default-clause-held_in c = c.drop_end-kept.ensures.fits c.args.scratch.now c.requires.held_in

pub returns-in-1 : goal.returns-in-1
returns-in-1 c = sent_close c.args.text.now c.args.scratch.now c.args.h c.args.n _ c.in-1.is c.requires.held_in c.drop_end.ensures

pub returns-in-3 : goal.returns-in-3
returns-in-3 c = sent_label c.args.text.now c.args.scratch.now c.args.h c.args.n _ c.in-3.is c.move_on.ensures

pub returns-in_default : goal.returns-in_default
returns-in_default c =
    sent_channel c.args.text.now c.args.scratch.now c.args.h c.args.n _ _ (omega (arith, c.requires.send_unit_kind_le_kind))
    c.drop_end-kept.ensures c.move_on-in_default.ensures
