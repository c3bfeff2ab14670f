use native.Mathlib.Omega.{arith}
use mathlib.Core.Path.{◌∙◌}
use Rattle.read_text.proofs.Whole.{zeros_long, fill_long, fill_no, fill_got}
use Rattle.read_types.proofs.Taking.{read_no, read_at}
use Rattle.read_text.proofs.reading.fill.Goals as goal

pub returns-then-text-gt-TEXT : goal.returns-then-text-gt-TEXT
returns-then-text-gt-TEXT c = fill_long _ _ c.if-text-gt-TEXT.true c.zero.ensures

pub returns-in-Ok : goal.returns-in-Ok
returns-in-Ok c =
    fill_got _ _ _ c.if-text-gt-TEXT.false c.read_script.ensures
    c.zero.ensures (read_at _ _ c.in-Ok.is)
    c.write_counts.ensures

pub returns-in-Err : goal.returns-in-Err
returns-in-Err c =
    fill_no _ _ _ c.if-text-gt-TEXT.false c.read_script.ensures
    (read_no _ _ c.in-Err.is)
    c.zero-in-Err.ensures
