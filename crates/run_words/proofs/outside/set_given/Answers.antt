use Rattle.run_words.specs.Raw.{raw_in}
use Rattle.run_words.specs.Bounds.{keeps, bounded_given}
use Rattle.run_words.proofs.Outsides.{given_set}
use Rattle.run_words.proofs.outside.set_given.Goals as goal

pub returns : goal.returns
returns c =
    let both = let ws = c.args.run.now in
    let e = given_set ws c.args.n c.requires.run_words_in_bounds c.requires.bounded in
    keeps e (bounded_given (raw_in ws) c.requires.bounded c.args.n c.requires.n_le_outside_numbers) in record { changed = both.0; still_bounded = both.1 }
