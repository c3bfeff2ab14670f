use mathlib.Core.Path.{◌≡◌}
use lib.ListN.{length}
use borrow.Author.Rules.{rules}
use Rattle.notation.specs.Limits.{scratch_words}
use Rattle.check_text.specs.Texts.{part_refused, part_read}
use Rattle.check_text.proofs.check.check_part.Goals as goal

pub returns-in_err-read : goal.returns-in_err-read
returns-in_err-read c =
    let l : length c.read.new.scratch ≡ scratch_words = search rules in
    part_refused c.args.text.now _ c.read.new.scratch _ c.requires l c.read.ensures c.in_err-read.was _ c.from_residual.ensures.1

pub check_tables-requires : goal.check_tables-requires
check_tables-requires c =
    let l : length c.read.new.scratch ≡ scratch_words = search rules in
    part_read c.args.text.now _ c.read.new.scratch _ c.requires l c.read.ensures _ c.in_ok-read.was
