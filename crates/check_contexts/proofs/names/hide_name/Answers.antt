use Rattle.check_contexts.specs.Marks.{hides_name}
use Rattle.check_contexts.proofs.names.hide_name.Goals as goal

pub returns : goal.returns
returns c = hides_name c.put_mark.ensures
