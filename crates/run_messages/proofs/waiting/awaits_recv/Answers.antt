use mathlib.Core.Path.{refl}
use native.Mathlib.Omega.{arith}
use Rattle.run_messages.specs.Waiting.{awaits_recv_so}
use Rattle.run_messages.proofs.waiting.awaits_recv.Goals as goal

pub overflow_add-kind : goal.overflow_add-kind
overflow_add-kind c = omega (arith, c.requires.send_unit_kind_le_kind.1)

pub returns : goal.returns
returns c = awaits_recv_so c.args.n refl c.awaits.ensures c.requires.send_unit_kind_le_kind.0 c.requires.send_unit_kind_le_kind.1
