use native.Mathlib.Omega.{arith}
use Rattle.run_alone.specs.Spawning.{no_room, fresh_small, no_channel, a_channel}
use Rattle.run_alone.proofs.spawning.spawn.Goals as goal

pub returns-then-count-ge-PROCESS_PLACES : goal.returns-then-count-ge-PROCESS_PLACES
returns-then-count-ge-PROCESS_PLACES c = no_room c.args.text.now c.args.scratch.now c.args.run.now c.args.place c.args.p c.args.m (omega (arith, c.if-count-ge-PROCESS_PLACES.true, c.count.ensures))

pub returns-in_default : goal.returns-in_default
returns-in_default c =
    no_channel c.args.text.now c.args.scratch.now c.args.run.now c.args.place c.args.p c.args.m c.fresh_channel.ensures
    (omega (arith, c.if-count-ge-PROCESS_PLACES.false, c.count.ensures)) c.in_default.is

pub overflow_cast-k : goal.overflow_cast-k
overflow_cast-k c =
    omega (
      arith,
      fresh_small c.args.text.now c.args.scratch.now c.args.run.now c.args.place c.args.p c.args.m c.fresh_channel.ensures
          c.in-Some.is,
    )

pub spawn_on-requires-clause-run_len_bound : goal.spawn_on-requires-clause-run_len_bound
spawn_on-requires-clause-run_len_bound c = (
  (omega (arith, c.if-count-ge-PROCESS_PLACES.false, c.count.ensures)),
  fresh_small c.args.text.now c.args.scratch.now
      c.args.run.now c.args.place c.args.p c.args.m c.fresh_channel.ensures c.in-Some.is,
)

pub returns : goal.returns
returns c =
    a_channel c.args.text.now c.args.scratch.now c.args.run.now c.args.place c.args.p c.args.m c.fresh_channel.ensures
    (omega (arith, c.if-count-ge-PROCESS_PLACES.false, c.count.ensures)) c.in-Some.is c.spawn_on.ensures
