use mathlib.Core.Path.{sym}
use Rattle.run_alone.specs.Parting.{gives_silently, outside_there_below, gives_outside}
use Rattle.run_alone.proofs.parting.give_up.Goals as goal

pub returns-in_default : goal.returns-in_default
returns-in_default c = gives_silently c.args.text.now c.args.scratch.now c.args.run.now c.args.e _ c.requires.run_of c.far_end.ensures c.in_default.not-Outside

pub outside_at-o-requires-clause-k_in_bounds : goal.outside_at-o-requires-clause-k_in_bounds
outside_at-o-requires-clause-k_in_bounds c = outside_there_below c.args.text.now c.args.scratch.now c.args.run.now c.args.e _ (sym c.in-Outside.ensures)

pub returns : goal.returns
returns c = gives_outside c.args.text.now c.args.scratch.now c.args.run.now c.args.e _ _ c.outside_at-o.result c.requires.run_of (sym c.in-Outside.ensures) c.outside_at-o.ensures.k_value c.let_go.ensures.changed c.let_go.ensures.still_bounded
