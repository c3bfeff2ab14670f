use mathlib.Core.Path.{sym, subst}
use Rattle.read_tables.specs.Roots.{TypeIn}
use Rattle.check_types.specs.Meeting.{small_in}
use Rattle.check_types.specs.Comparing.{parts_of, turn_apart, turn_less}
use Rattle.check_types.proofs.equality.turn.Goals as goal

pub type_node-x-requires : goal.type_node-x-requires
type_node-x-requires c = (c.requires.0.area, small_in _ _ c.requires.0 _ c.requires.1)

pub type_node-y-requires : goal.type_node-y-requires
type_node-y-requires c = (c.requires.0.area, small_in _ _ c.requires.0 _ (subst (TypeIn _ _) (sym c.from-j.ensures) c.requires.2))

pub meet_heads-requires : goal.meet_heads-requires
meet_heads-requires c = (
  c.requires.0,
  parts_of _ _ c.requires.0 c.type_node-x.ensures c.requires.1,
  parts_of _ _ c.requires.0 c.type_node-y.ensures (subst (TypeIn _ _) (sym c.from-j.ensures) c.requires.2),
)

pub returns-then-not-meet_heads : goal.returns-then-not-meet_heads
returns-then-not-meet_heads c = turn_apart _ _ c.requires.0 c.requires.1 c.from-j.ensures c.type_node-x.ensures c.type_node-y.ensures c.meet_heads.ensures c.if-not-meet_heads.true

pub returns : goal.returns
returns c = turn_less _ _ c.requires.0 c.requires.1 c.from-j.ensures c.type_node-x.ensures c.type_node-y.ensures c.meet_heads.ensures c.if-not-meet_heads.false _ c.mark.ensures
