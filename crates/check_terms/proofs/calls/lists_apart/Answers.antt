use Rattle.std.proofs.Common.{rules}
use Rattle.check_terms.specs.Lists.{apart_by_name, not_among}
use Rattle.check_terms.proofs.calls.lists_apart.Goals as goal

pub returns : goal.returns
returns c = apart_by_name c.every_name.ensures (λ ys rest o. record { is = λ x past b zs rest' p n. search (rules, not_among) })
