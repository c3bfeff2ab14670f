use Rattle.check_contexts.specs.Found.{brings}
use borrow.Author.Rules.{rules}
use Rattle.check_contexts.proofs.held.bring_end.Goals as goal

pub returns : goal.returns
returns c = brings _ _ _ c.with.ensures.result_value c.with.ensures.count_value (search rules) (search rules)
