use mathlib.Core.Path.{sym}
use Rattle.run_words.specs.SliceLaws.{numbered}
use Rattle.run_words.proofs.outside.given.Goals as goal

pub returns : goal.returns
returns c = sym (numbered c.args.run.now)
