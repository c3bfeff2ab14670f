use Rattle.check_types.specs.Meeting.{small_in, types_joined}
use Rattle.check_types.proofs.equality.join_types.Goals as goal

pub join-requires : goal.join-requires
join-requires c = (small_in _ _ c.requires.0 _ c.standing-here.ensures.type, small_in _ _ c.requires.0 _ c.standing-there.ensures.type)

pub returns : goal.returns
returns c = types_joined _ _ c.standing-here.ensures c.standing-there.ensures c.join.ensures
