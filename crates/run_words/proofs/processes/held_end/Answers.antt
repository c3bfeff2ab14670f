use mathlib.Core.Path.{refl, sym, ap, ◌∙◌}
use mathlib.Core.Option.{some}
use Rattle.run_words.proofs.Searches.{end_there}
use Rattle.run_words.proofs.processes.held_end.Goals as goal

pub returns-clause-k_value : goal.returns-clause-k_value
returns-clause-k_value c = end_there c.args.run.now c.args.i c.args.k _ c.requires.k_bound refl ∙ ap some (sym c.unpacked.ensures.result_value)
