use Rattle.check_terms.specs.Calls.{counts_left}
use Rattle.check_terms.proofs.calls.count_left.Goals as goal

pub drop_list-r-requires : goal.drop_list-r-requires
drop_list-r-requires c = c.drop_list-l.ensures.many

pub returns : goal.returns
returns c = counts_left c.drop_list-l.ensures c.drop_list-r.ensures
