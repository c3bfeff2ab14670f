use mathlib.Core.Path.{sym, ◌∙◌}
use Prim.Native.Nat.{◌+◌}
use Rattle.notation.specs.Token.{name_at}
use Rattle.run_alone.specs.Parting.{end_found_lem}
use Rattle.run_wellformed.specs.Halting.{over_far, outside_takes, given_up_takes}
use Rattle.run_wellformed.proofs.halting.nobody_takes.Goals as goal

pub far_end-requires-clause-side_lt_side_radix : goal.far_end-requires-clause-side_lt_side_radix
far_end-requires-clause-side_lt_side_radix c = (end_found_lem {w = c.args.scratch.now} c.find_end.ensures c.in-Some.is c.requires.held_in).1

pub returns-in-Outside : goal.returns-in-Outside
returns-in-Outside c =
    let text = c.args.text.now in
    let run = c.args.run.now in
    let l = name_at text (c.args.at + 1) in
    over_far text c.args.scratch.now run c.find_end.ensures l c.in-Some.is
    (outside_takes text c.args.scratch.now run c.in-Some.e l _ (sym c.in-Outside.is ∙ c.far_end.ensures))

pub returns-in-GivenUp : goal.returns-in-GivenUp
returns-in-GivenUp c =
    let a = c.args in
    let l = name_at a.text.now (a.at + 1) in
    over_far a.text.now a.scratch.now a.run.now c.find_end.ensures l c.in-Some.is
    (given_up_takes a.text.now a.scratch.now a.run.now c.in-Some.e l (sym c.in-GivenUp.is ∙ c.far_end.ensures))
