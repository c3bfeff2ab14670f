use Rattle.run_words.specs.SliceLaws.{held_few}
use Rattle.run_words.proofs.Slices.{loaded}
use Rattle.run_words.proofs.processes.load.Goals as goal

pub get-requires-clause-i_bound : goal.get-requires-clause-i_bound
get-requires-clause-i_bound c = held_few c.args.run.now c.args.i c.requires.bounded c.requires.i_in_bounds

pub returns-clause-i_value : goal.returns-clause-i_value
returns-clause-i_value c = let at = loaded c.args.run.now c.args.i _ c.requires.bounded c.requires.i_in_bounds c.get.ensures.i_value in at.0

pub returns-clause-bounded_process : goal.returns-clause-bounded_process
returns-clause-bounded_process c = let at = loaded c.args.run.now c.args.i _ c.requires.bounded c.requires.i_in_bounds c.get.ensures.i_value in at.1
