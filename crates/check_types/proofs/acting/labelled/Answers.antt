use Rattle.std.proofs.Common.{arith}
use Rattle.read_tables.specs.Decode.{alternative_at}
use Rattle.check_types.specs.Labels.{alternatives_below, leads}
use Rattle.check_types.proofs.acting.labelled.Goals as goal

pub label_number-requires : goal.label_number-requires
label_number-requires c = (alternatives_below _ _ _ _ c.requires.1, omega arith)

pub returns : goal.returns
unfolding alternative_at
returns c = rw c.label_number.ensures (leads _ _ _ _ _ c.requires.1)
