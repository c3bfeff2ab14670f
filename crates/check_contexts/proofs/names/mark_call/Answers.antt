use Rattle.check_contexts.specs.Walks.{marked_call}
use Rattle.check_contexts.proofs.names.mark_call.Goals as goal

pub returns : goal.returns
returns c = marked_call c.list_start-provided.ensures c.mark_list-first.ensures c.list_start-used.ensures c.mark_list-second.ensures
