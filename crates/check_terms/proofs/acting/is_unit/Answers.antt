use Rattle.check_terms.specs.Acting.{unit_of}
use Rattle.check_terms.proofs.acting.is_unit.Goals as goal

pub returns : goal.returns
returns c = unit_of _ _ _ c.type_node-n.ensures
