use mathlib.Core.Path.{sym, ◌∙◌}
use Rattle.run_messages.specs.Room.{held_once}
use Rattle.run_messages.specs.Sending.{sends_unheard}
use Rattle.run_messages.proofs.sending.deliver.Goals as goal

pub far_end_near-requires-clause-place_in_bounds : goal.far_end_near-requires-clause-place_in_bounds
far_end_near-requires-clause-place_in_bounds c = let once = held_once c.args.text.now c.args.scratch.now c.args.run.now c.requires.well_formed in (c.requires.sending_in.stands.below, once)

pub returns-in-GivenUp : goal.returns-in-GivenUp
returns-in-GivenUp c =
    sends_unheard c.args.text.now c.args.scratch.now c.args.run.now c.args.sent
    (sym c.in-GivenUp.is ∙ c.far_end_near.ensures) c.send_unheard.ensures
