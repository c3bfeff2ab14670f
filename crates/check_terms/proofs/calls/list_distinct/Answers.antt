use Rattle.std.proofs.Common.{rules}
use Rattle.check_terms.specs.Lists.{distinct_by_name, not_among}
use Rattle.check_terms.proofs.calls.list_distinct.Goals as goal

pub returns : goal.returns
returns c = distinct_by_name c.every_name.ensures (record { is = λ x past b ys rest p n. search (rules, not_among) })
