use Rattle.check_contexts.specs.Marks.{marks_name}
use Rattle.check_contexts.proofs.names.mark_name.Goals as goal

pub returns : goal.returns
returns c = marks_name c.put_mark.ensures
