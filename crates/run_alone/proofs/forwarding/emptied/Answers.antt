use Rattle.run_alone.specs.Forwarding.{empties}
use Rattle.run_alone.proofs.forwarding.emptied.Goals as goal

pub returns : goal.returns
returns c = empties c.args.p _ c.no_ends.ensures.result_value c.no_ends.ensures.count_value
