use Rattle.run_words.specs.Operations.{channels_held}
use Rattle.run_words.proofs.Marks.{unmarked}
use Rattle.run_words.proofs.channels.marked.Goals as goal

pub returns : goal.returns
unfolding channels_held
returns c = c.mark_processes.ensures _ (c.mark_outside.ensures unmarked)
