use Rattle.read_types.proofs.Taking.{step_no, step_at, read_left}
use Rattle.read_types.proofs.TypePaths.{one_no, one_got}
use Rattle.read_types.proofs.types.one_type.Goals as goal

pub returns-in_err-type_term : goal.returns-in_err-type_term
returns-in_err-type_term c = one_no _ _ _ _ c.requires c.type_term.ensures (step_no _ c.in_err-type_term.was) (read_left _ _ _ c.from_residual.ensures.1)

pub returns : goal.returns
returns c = one_got _ _ _ _ c.requires c.type_term.ensures (step_at _ c.in_ok-type_term.was) c.append_node.ensures
