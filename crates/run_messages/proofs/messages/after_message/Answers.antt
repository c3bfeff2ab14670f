use native.Mathlib.Omega.{arith}
use Rattle.run_messages.specs.Messages.{closed_type, passed_type_lem, chosen_type}
use mathlib.Core.Path.{refl}
use Rattle.read_tables.specs.Program.{plain_in}
use Rattle.run_messages.proofs.messages.after_message.Goals as goal

pub returns-in-1 : goal.returns-in-1
returns-in-1 c =
    closed_type c.args.text.now c.args.scratch.now c.args.n (plain_in c.args.text.now c.args.scratch.now c.args.i) c.in-1.is
    (record { is = refl; type = c.requires.type_in })

pub returns-in-2 : goal.returns-in-2
returns-in-2 c = passed_type_lem c.args.text.now c.args.scratch.now c.args.n (plain_in c.args.text.now c.args.scratch.now c.args.i) c.in-2.is c.after_passing.ensures

pub returns-in_default : goal.returns-in_default
returns-in_default c =
    chosen_type c.args.text.now c.args.scratch.now c.args.n (plain_in c.args.text.now c.args.scratch.now c.args.i)
    (omega (arith, c.requires.send_unit_kind_le_kind)) c.after_choosing.ensures
