use Rattle.check_contexts.specs.Halves.{picks_few, half_joined}
use Rattle.check_contexts.proofs.halves.spawn_half.Goals as goal

pub bring_end-requires : goal.bring_end-requires
bring_end-requires c = (picks_few c.requires.count_le_held_limit.2 c.keep-a.ensures, c.requires.name_lt_text_limit.0, c.side_of-side.ensures.upper_bound, c.requires.name_lt_text_limit.1, c.requires.name_lt_text_limit.2)

pub returns : goal.returns
returns c = half_joined c.keep-a.ensures c.side_of-side.ensures.result_value c.bring_end.ensures
