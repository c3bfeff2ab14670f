use Rattle.check_types.specs.Meeting.{label_absent, label_lone, label_both}
use Rattle.check_types.proofs.equality.meet_label.Goals as goal

pub returns-in_default : goal.returns-in_default
returns-in_default c = label_absent _ _ c.requires.0 _ _ _ _ _ _ _ c.labelled-here.ensures c.labelled-there.ensures _ c.in_default.is c.is_none.ensures

pub returns-in_default-there : goal.returns-in_default-there
returns-in_default-there c = label_lone _ _ c.requires.0 _ _ _ _ _ _ _ c.labelled-here.ensures c.labelled-there.ensures _ c.in-Some.is c.in_default-there.is

pub join_types-requires : goal.join_types-requires
join_types-requires c = (c.requires.0, c.labelled-here.ensures.type _ c.in-Some.is, c.labelled-there.ensures.type _ c.in-Some-there.is)

pub returns : goal.returns
returns c = label_both _ _ c.requires.0 _ _ _ _ _ _ _ c.labelled-here.ensures c.labelled-there.ensures _ _ _ _ c.in-Some.is c.in-Some-there.is c.join_types.ensures.is
