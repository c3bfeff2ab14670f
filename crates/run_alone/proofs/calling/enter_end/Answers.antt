use Rattle.run_alone.specs.Calling.{enters_found}
use Rattle.run_alone.specs.Parting.{end_found_lem}
use Rattle.run_alone.proofs.calling.enter_end.Goals as goal

pub bring_end-requires : goal.bring_end-requires
bring_end-requires c = (
  c.requires.count_lt_held_limit.0,
  c.requires.count_lt_held_limit.1,
  c.requires.count_lt_held_limit.2,
  c.requires.count_lt_held_limit.3,
  (end_found_lem {w = c.args.scratch.now} c.find_end.ensures c.in-Some.is c.requires.held_in.0).0.bounds.channel,
)

pub returns : goal.returns
returns c =
    enters_found c.args.text.now c.args.scratch.now c.args.h c.args.r c.args.a c.args.at c.args.side c.args.node
    c.find_end.ensures c.requires.held_in.1 _ _ c.in-Some.is c.requires.held_in.2 c.bring_end.ensures
