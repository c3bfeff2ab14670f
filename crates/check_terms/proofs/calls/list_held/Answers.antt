use Rattle.std.proofs.Common.{rules}
use Rattle.check_terms.specs.Lists.{held_by_name}
use Rattle.check_terms.specs.Sends.{found_where}
use Rattle.check_terms.proofs.calls.list_held.Goals as goal

pub returns : goal.returns
returns c = held_by_name c.every_name.ensures (λ w. record { is = λ x past b ys rest p n. search (rules, found_where) })
