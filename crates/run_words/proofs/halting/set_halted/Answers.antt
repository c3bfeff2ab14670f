use Rattle.run_words.specs.Raw.{raw_in}
use Rattle.run_words.specs.Bounds.{keeps, bounded_halted}
use Rattle.run_words.proofs.Slices.{halt_set}
use Rattle.run_words.proofs.halting.set_halted.Goals as goal

pub returns : goal.returns
returns c =
    let both = let ws = c.args.run.now in
    keeps (halt_set ws 1 c.requires.run_words_in_bounds c.requires.bounded) (bounded_halted (raw_in ws) c.requires.bounded) in record { changed = both.0; still_bounded = both.1 }
