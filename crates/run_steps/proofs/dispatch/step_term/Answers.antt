use native.Mathlib.Omega.{arith}
use Rattle.run_steps.specs.Dispatch.{facts_at, send_node, ruled_as, ruled_send, ruled_receive, spawn_in}
use Rattle.run_alone.specs.Changes.{pointer_small}
use Rattle.read_tables.specs.Access.{node_there}
use Rattle.run_steps.proofs.dispatch.step_term.Goals as goal

pub returns-in-0 : goal.returns-in-0
returns-in-0 c =
    absurd (facts_at c.args.text.now c.args.scratch.now c.args.run.now c.args.place c.args.p c.args.n
    c.requires.ruled_by 0 c.in-0.is)

pub overflow_cast-n : goal.overflow_cast-n
overflow_cast-n c =
    omega (
      arith,
      pointer_small c.args.text.now c.args.scratch.now _ c.requires.run_of.tables
          (facts_at c.args.text.now c.args.scratch.now c.args.run.now c.args.place c.args.p c.args.n c.requires.ruled_by 4 c.in-4.is),
    )

pub cancel-requires-clause-run_of : goal.cancel-requires-clause-run_of
cancel-requires-clause-run_of c = c.requires.run_of

pub cancel-requires-clause-stands_at : goal.cancel-requires-clause-stands_at
cancel-requires-clause-stands_at c = c.requires.stands_at

pub cancel-requires-clause-process_in : goal.cancel-requires-clause-process_in
cancel-requires-clause-process_in c =
    facts_at c.args.text.now c.args.scratch.now c.args.run.now c.args.place c.args.p c.args.n c.requires.ruled_by 4
    c.in-4.is

pub returns-in-4 : goal.returns-in-4
returns-in-4 c =
    ruled_as c.args.text.now c.args.scratch.now c.args.run.now c.args.place
    c.args.p c.args.n c.requires.ruled_by 4 c.in-4.is c.cancel.ensures

pub overflow_cast-m : goal.overflow_cast-m
overflow_cast-m c = omega (arith, c.requires.ruled_by.at)

pub overflow_cast-m-in-5 : goal.overflow_cast-m-in-5
overflow_cast-m-in-5 c =
    omega (
      arith,
      node_there c.args.text.now c.args.scratch.now c.requires.run_of.tables _
          (facts_at c.args.text.now c.args.scratch.now c.args.run.now c.args.place c.args.p c.args.n c.requires.ruled_by 5 c.in-5.is).0,
    )

pub overflow_cast-m-in-5-2 : goal.overflow_cast-m-in-5-2
overflow_cast-m-in-5-2 c =
    omega (
      arith,
      pointer_small c.args.text.now c.args.scratch.now _ c.requires.run_of.tables
          (facts_at c.args.text.now c.args.scratch.now c.args.run.now c.args.place c.args.p c.args.n c.requires.ruled_by 5 c.in-5.is).1,
    )

pub overflow_cast-m-in-5-3 : goal.overflow_cast-m-in-5-3
overflow_cast-m-in-5-3 c =
    omega (
      arith,
      pointer_small c.args.text.now c.args.scratch.now _ c.requires.run_of.tables
          (facts_at c.args.text.now c.args.scratch.now c.args.run.now c.args.place c.args.p c.args.n c.requires.ruled_by 5 c.in-5.is).2,
    )

pub spawn-requires-clause-run_of : goal.spawn-requires-clause-run_of
spawn-requires-clause-run_of c = c.requires.run_of

pub spawn-requires-clause-stands_at : goal.spawn-requires-clause-stands_at
spawn-requires-clause-stands_at c = c.requires.stands_at

pub spawn-requires-clause-spawn_in : goal.spawn-requires-clause-spawn_in
spawn-requires-clause-spawn_in c =
    spawn_in c.args.text.now c.args.scratch.now c.args.run.now c.args.place c.args.p c.args.n c.requires.ruled_by
    c.in-5.is

pub returns-in-5 : goal.returns-in-5
returns-in-5 c =
    ruled_as c.args.text.now c.args.scratch.now c.args.run.now
    c.args.place c.args.p c.args.n c.requires.ruled_by 5 c.in-5.is c.spawn.ensures

pub send-requires-clause-run_of : goal.send-requires-clause-run_of
send-requires-clause-run_of c = c.requires.run_of

pub send-requires-clause-stands_at : goal.send-requires-clause-stands_at
send-requires-clause-stands_at c = c.requires.stands_at

pub send-requires-clause-send_node : goal.send-requires-clause-send_node
send-requires-clause-send_node c =
    send_node c.args.text.now c.args.scratch.now c.args.run.now c.args.place c.args.p c.args.n c.requires.ruled_by
    (omega arith) (omega arith)

pub send-requires-clause-well_formed : goal.send-requires-clause-well_formed
send-requires-clause-well_formed c = c.requires.well_formed

pub returns-in-1-to-3 : goal.returns-in-1-to-3
returns-in-1-to-3 c =
    ruled_send c.args.text.now c.args.scratch.now c.args.run.now c.args.place
    c.args.p c.args.n c.requires.ruled_by (omega arith) (omega arith)
    c.send.ensures

pub receive-requires-clause-run_of : goal.receive-requires-clause-run_of
receive-requires-clause-run_of c = c.requires.run_of

pub receive-requires-clause-stands_at : goal.receive-requires-clause-stands_at
receive-requires-clause-stands_at c = c.requires.stands_at

pub receive-requires-clause-well_formed : goal.receive-requires-clause-well_formed
receive-requires-clause-well_formed c = c.requires.well_formed

pub returns-in-6-to-8 : goal.returns-in-6-to-8
returns-in-6-to-8 c =
    ruled_receive c.args.text.now c.args.scratch.now c.args.run.now c.args.place c.args.p c.args.n c.requires.ruled_by
    (omega arith) (omega arith) c.receive.ensures

pub step_ending-requires-clause-run_of : goal.step_ending-requires-clause-run_of
step_ending-requires-clause-run_of c = c.requires.run_of

pub step_ending-requires-clause-stands_at : goal.step_ending-requires-clause-stands_at
step_ending-requires-clause-stands_at c = c.requires.stands_at

pub step_ending-requires-clause-small_signatures : goal.step_ending-requires-clause-small_signatures
step_ending-requires-clause-small_signatures c = c.requires.small_signatures

pub step_ending-requires-clause-ruled_by : goal.step_ending-requires-clause-ruled_by
step_ending-requires-clause-ruled_by c = (c.requires.ruled_by, omega arith)

pub returns-in-9-to-max : goal.returns-in-9-to-max
returns-in-9-to-max c = c.step_ending.ensures
