use mathlib.Core.Path.{sym}
use Rattle.run_words.specs.Raw.{raw_in}
use Rattle.run_words.specs.Operations.{changed_by}
use Rattle.run_words.specs.SearchLaws.{outside_below}
use Rattle.run_words.proofs.Outsides.{unchanged, changed_changes, changed_same}
use Rattle.run_words.proofs.outside.change_outside.Goals as goal

pub returns-in_default : goal.returns-in_default
returns-in_default c =
    let run = c.args.run.now in
    let both = unchanged run _ (changed_same run c.args.channel (changed_by c.args.change) (sym c.in_default.ensures)) c.requires.bounded in
    record { changed = both.0; still_bounded = both.1 }

pub outside_at-o-requires-clause-k_in_bounds : goal.outside_at-o-requires-clause-k_in_bounds
outside_at-o-requires-clause-k_in_bounds c = outside_below c.args.channel (raw_in c.args.run.now).outside _ (sym c.in-Some.ensures)

pub set_outside-requires-clause-k_in_bounds : goal.set_outside-requires-clause-k_in_bounds
set_outside-requires-clause-k_in_bounds c = outside_below c.args.channel (raw_in c.args.run.now).outside _ (sym c.in-Some.ensures)

pub returns-in-Some-clause-changed : goal.returns-in-Some-clause-changed
returns-in-Some-clause-changed c =
    changed_changes c.args.run.now _ c.args.channel _ (changed_by c.args.change) (sym c.in-Some.ensures)
    c.outside_at-o.ensures.k_value c.changed.ensures c.set_outside.ensures.changed
