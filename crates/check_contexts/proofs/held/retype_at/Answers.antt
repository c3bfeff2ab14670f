use Rattle.check_contexts.specs.Found.{retypes_at}
use Rattle.run_words.specs.ListLaws.{all_at}
use Rattle.run_words.specs.Raw.{BoundedEnd}
use Rattle.run_words.specs.Values.{held_in}
use borrow.Author.Rules.{rules}
use Rattle.check_contexts.proofs.held.retype_at.Goals as goal

pub replaced-requires-clause-bounded_end : goal.replaced-requires-clause-bounded_end
replaced-requires-clause-bounded_end c = let o = all_at BoundedEnd (held_in c.args.h) c.args.k c.requires.all c.end_at-e.ensures.k_value in (record { name = o.name; node = search rules; channel = o.channel }, c.end_at-e.ensures.side_lt_side_radix.0)

pub returns : goal.returns
returns c = retypes_at c.end_at-e.result c.end_at-e.ensures.k_value c.replaced.ensures.result_value c.replaced.ensures.count_value (search rules)
