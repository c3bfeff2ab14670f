use mathlib.Core.Path.{refl, sym}
use Rattle.run_alone.specs.Forwarding.{no_provided, no_used, forwards_joined, forwards_parted}
use Rattle.run_alone.specs.Parting.{end_found_lem}
use Rattle.run_alone.proofs.forwarding.forward.Goals as goal

pub returns-in_default : goal.returns-in_default
returns-in_default c = no_provided c.args.text.now c.args.scratch.now c.args.run.now c.args.place c.args.p c.args.x c.args.c c.find_end.ensures c.in_default.is

pub returns-in_default-find_end : goal.returns-in_default-find_end
returns-in_default-find_end c = no_used c.args.text.now c.args.scratch.now c.args.run.now c.args.place c.args.p c.args.x c.args.c c.in-Some.ensures refl c.find_end-2.ensures c.in_default-find_end.is

pub far_end-far-requires-clause-side_lt_side_radix : goal.far_end-far-requires-clause-side_lt_side_radix
far_end-far-requires-clause-side_lt_side_radix c = (end_found_lem {w = c.args.scratch.now} c.in-Some-find_end.ensures refl c.requires.stands_at.is.held).1

pub part-requires-clause-process_of : goal.part-requires-clause-process_of
part-requires-clause-process_of c = c.emptied-q.ensures.fits c.args.text.now c.args.scratch.now _ c.requires.stands_at.is

pub part-requires-clause-side_lt_side_radix : goal.part-requires-clause-side_lt_side_radix
part-requires-clause-side_lt_side_radix c = (end_found_lem {w = c.args.scratch.now} c.in-Some.ensures refl c.requires.stands_at.is.held).1

pub returns-then-is_given_up : goal.returns-then-is_given_up
returns-then-is_given_up c =
    forwards_parted c.args.text.now c.args.scratch.now c.args.run.now c.args.place c.args.p c.args.x c.args.c c.in-Some.ensures refl c.in-Some-find_end.ensures refl
    _ _ c.far_end-far.ensures (sym c.if-is_given_up.ensures) c.emptied-q.ensures c.part.ensures

pub join-requires-clause-side_lt_side_radix : goal.join-requires-clause-side_lt_side_radix
join-requires-clause-side_lt_side_radix c = (
  (end_found_lem {w = c.args.scratch.now} c.in-Some.ensures refl c.requires.stands_at.is.held).1,
  (end_found_lem {w = c.args.scratch.now} c.in-Some-find_end.ensures refl c.requires.stands_at.is.held).0.bounds.channel,
)

pub returns : goal.returns
returns c =
    forwards_joined c.args.text.now c.args.scratch.now c.args.run.now c.args.place c.args.p c.args.x c.args.c c.in-Some.ensures refl c.in-Some-find_end.ensures refl
    _ c.far_end-far.ensures (sym c.if-is_given_up.ensures) c.join.ensures
