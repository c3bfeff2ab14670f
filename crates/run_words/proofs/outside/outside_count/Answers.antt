use mathlib.Core.Path.{sym, ◌∙◌}
use Rattle.run_words.specs.SliceLaws.{counted_outside}
use Rattle.run_words.proofs.outside.outside_count.Goals as goal

pub returns : goal.returns
returns c = c.wide.ensures.value ∙ sym (counted_outside c.args.run.now)
