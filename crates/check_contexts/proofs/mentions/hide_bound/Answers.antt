use Rattle.check_contexts.specs.Mentioned.{bound_spawn, bound_receive, bound_none}
use Rattle.check_contexts.proofs.mentions.hide_bound.Goals as goal

pub returns-then-node-eq-SPAWN : goal.returns-then-node-eq-SPAWN
returns-then-node-eq-SPAWN c = bound_spawn _ c.if-node-eq-SPAWN.true c.hide_name.ensures

pub returns-then-node-eq-RECV_CHANNEL : goal.returns-then-node-eq-RECV_CHANNEL
returns-then-node-eq-RECV_CHANNEL c = bound_receive _ c.if-node-eq-SPAWN.false c.if-node-eq-RECV_CHANNEL.true c.hide_name-then-node-eq-RECV_CHANNEL.ensures

pub returns : goal.returns
returns c = bound_none _ c.if-node-eq-SPAWN.false c.if-node-eq-RECV_CHANNEL.false
