use Rattle.print_bytes.specs.Spelling.{spelling_next, spelling_last, spelling_full}
use Rattle.print_bytes.proofs.writing.spell.Goals as goal

pub returns-then-left-lt10 : goal.returns-then-left-lt10
returns-then-left-lt10 c = spelling_last _ _ _ _ c.digit.ensures _ c.loop-first.invariant c.loop-first-test.true c.if-left-lt10.true

pub loop-first-preserved : goal.loop-first-preserved
loop-first-preserved c = spelling_next _ _ _ _ c.digit.ensures _ c.loop-first.invariant c.loop-first-test.true c.if-left-lt10.false

pub returns : goal.returns
returns c = spelling_full _ _ _ _ c.loop-first.invariant c.loop-first-test.false
