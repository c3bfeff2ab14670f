use mathlib.Core.Path.{sym, ◌∙◌}
use Rattle.run_words.specs.SliceLaws.{counted}
use Rattle.run_words.proofs.processes.count.Goals as goal

pub returns : goal.returns
returns c = c.wide.ensures.value ∙ sym (counted c.args.run.now)
