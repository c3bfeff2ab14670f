use mathlib.Core.Path.{sym, subst}
use native.Mathlib.Omega.{arith}
use Rattle.run_alone.specs.Calling.{EntersList, entries_below, held_nothing, enters_call}
use Rattle.run_alone.specs.Changes.{none_held}
use Rattle.read_tables.specs.Whole.{EntriesIn}
use Rattle.check_contexts.specs.Walks.{ends_on}
use Rattle.run_alone.proofs.calling.enter_call.Goals as goal

pub past_entries-second-requires : goal.past_entries-second-requires
past_entries-second-requires c = (omega (arith, c.requires.used_bound), entries_below c.args.text.now c.args.scratch.now _ _ c.requires.tables.0 c.requires.tables.1.provides)

pub returns : goal.returns
returns c =
    let text = c.args.text.now in
    let scratch = c.args.scratch.now in
    let list-start2 = c.list_start-used in
    let middle = ends_on c.enter_list-first.ensures.walking c.list_end-middle.ensures in
    enters_call text scratch c.args.h c.args.bracket c.args.d _ _ _ c.no_ends-none.result c.enter_list-first.result.held c.enter_list-both.result.held
    (none_held text scratch _ c.no_ends-none.ensures.count_value) c.list_start-from.ensures middle list-start2.ensures c.enter_list-first.ensures.enters_list
    (subst (λ i. EntersList text scratch c.args.h c.enter_list-first.result.held list-start2.result 1 i c.args.d.used c.enter_list-both.result.held)
    c.past_entries-second.ensures c.enter_list-both.ensures.enters_list)
