use Rattle.std.proofs.Common.{arith}
use Rattle.read_tables.specs.Decode.{branch_at}
use Rattle.check_types.specs.Branches.{branches_below, branch_leads}
use Rattle.check_types.proofs.branches.branch_of.Goals as goal

pub label_number-requires : goal.label_number-requires
label_number-requires c = (branches_below _ _ _ _ c.requires.1, omega arith)

pub returns : goal.returns
unfolding branch_at
returns c = rw c.label_number.ensures (branch_leads _ _ _ _ _ c.requires.1)
