use Rattle.std.proofs.Common.{rules}
use Rattle.check_contexts.specs.Mentioned.{last_part}
use Rattle.check_contexts.proofs.mentions.last_part.Goals as goal

pub returns-then-has_last : goal.returns-then-has_last
unfolding last_part
returns-then-has_last c = search rules

pub returns-else-has_last : goal.returns-else-has_last
unfolding last_part
returns-else-has_last c = search rules
