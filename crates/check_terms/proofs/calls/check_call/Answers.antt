use Rattle.check_terms.specs.Calls.{call_checked}
use Rattle.check_terms.proofs.calls.check_call.Goals as goal

pub check_lists-requires : goal.check_lists-requires
check_lists-requires c = c.requires.tables

pub returns : goal.returns
returns c =
    call_checked c.args.text.now c.args.scratch.now c.args.h c.args.q c.args.bracket _ _ _ _ _ _ c.requires.call_at
    c.list_start-a.ensures c.list_end-m.ensures c.list_start-b.ensures c.check_lists.ensures
