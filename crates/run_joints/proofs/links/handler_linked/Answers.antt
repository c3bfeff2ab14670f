use Rattle.run_words.specs.Raw.{raw_in}
use Rattle.run_joints.proofs.Handlers.{whole_linked}
use Rattle.run_joints.proofs.links.handler_linked.Goals as goal

pub returns-else-kind-ne-WAITING : goal.returns-else-kind-ne-WAITING
returns-else-kind-ne-WAITING c = whole_linked (raw_in c.args.run.now).processes c.args.i c.args.kind _ c.if-kind-ne-WAITING.false c.count.ensures c.linked_before.ensures
