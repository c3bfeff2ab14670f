use Rattle.check_terms.specs.Sends.{new_where}
use Rattle.check_terms.proofs.sends.is_new.Goals as goal

pub returns : goal.returns
returns c = new_where _ _ c.find_end.ensures c.is_none.ensures
