use Rattle.run_words.proofs.Decisions.{halt_tested}
use Rattle.run_words.proofs.halting.is_halted.Goals as goal

pub returns : goal.returns
returns c = halt_tested c.args.run.now
