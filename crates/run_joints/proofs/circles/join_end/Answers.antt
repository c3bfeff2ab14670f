use mathlib.Core.Path.{sym, ◌∙◌}
use Rattle.run_words.specs.Raw.{raw_in}
use Rattle.run_joints.proofs.Joining.{far_place}
use Rattle.run_joints.proofs.circles.join_end.Goals as goal

pub join-requires : goal.join-requires
join-requires c = (c.requires.i_lt_process_places.0, far_place (raw_in c.args.run.now) c.args.e.channel _ _ c.requires.bounded (sym c.far_end.ensures ∙ c.in-Process.is))
