use Rattle.run_words.proofs.Outsides.{outside_here}
use Rattle.run_words.proofs.outside.outside_at.Goals as goal

pub returns : goal.returns
returns c = let both = outside_here c.args.run.now c.args.k _ c.requires.bounded c.requires.k_in_bounds c.get_outside.ensures.result_value in record { k_value = both.0; bounded_outside = both.1 }
