use Rattle.check_text.specs.Texts.{checked_short, checked_enough}
use Rattle.check_text.proofs.check.check.Goals as goal

pub returns-then-scratch-lt-SCRATCH_WORDS : goal.returns-then-scratch-lt-SCRATCH_WORDS
returns-then-scratch-lt-SCRATCH_WORDS c = checked_short _ _ c.if-scratch-lt-SCRATCH_WORDS.true

pub returns : goal.returns
returns c = checked_enough _ _ _ _ c.if-scratch-lt-SCRATCH_WORDS.false c.check_part.ensures
