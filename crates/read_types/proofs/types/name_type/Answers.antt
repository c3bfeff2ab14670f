use Rattle.read_types.proofs.Taking.{step_no, step_at, read_left}
use Rattle.read_types.proofs.TypePaths.{name_no, name_got}
use Rattle.read_types.proofs.types.name_type.Goals as goal

pub returns-in_err-i : goal.returns-in_err-i
returns-in_err-i c = name_no _ _ _ _ c.requires c.type_term.ensures (step_no _ c.in_err-i.was) (read_left _ _ _ c.from_residual.ensures.1)

pub returns : goal.returns
returns c = name_got _ _ _ _ c.requires c.type_term.ensures (step_at _ c.in_ok-i.was) c.append_node.ensures
