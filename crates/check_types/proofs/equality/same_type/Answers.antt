use Rattle.check_types.specs.Comparing.{told, told_one}
use Rattle.check_types.proofs.equality.same_type.Goals as goal

pub returns-then-here-there : goal.returns-then-here-there
returns-then-here-there c = told_one c.requires.0 c.standing-here.ensures c.standing-there.ensures c.if-here-there.true

pub same_tree-requires : goal.same_tree-requires
same_tree-requires c = (c.requires.0, c.standing-here.ensures.type, c.standing-there.ensures.type)

pub returns : goal.returns
returns c = told c.requires.0 c.standing-here.ensures c.standing-there.ensures c.same_tree.ensures
