use Rattle.read_text.proofs.Whole.{text_short, text_full}
use Rattle.read_text.proofs.reading.read.Goals as goal

pub returns-then-scratch-lt-SCRATCH_WORDS : goal.returns-then-scratch-lt-SCRATCH_WORDS
returns-then-scratch-lt-SCRATCH_WORDS c = text_short _ _ c.if-scratch-lt-SCRATCH_WORDS.true

pub returns : goal.returns
returns c = text_full _ _ c.fill.new.part _ c.if-scratch-lt-SCRATCH_WORDS.false c.fill.ensures
