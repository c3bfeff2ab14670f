use native.Mathlib.Omega.{arith}
use Rattle.run_steps.specs.Dispatch.{facts_at, ruled_as, try_parts, ruled_try, call_in}
use Rattle.run_alone.specs.Changes.{pointer_small}
use Rattle.run_steps.proofs.dispatch.step_ending.Goals as goal

pub forward-requires-clause-run_of : goal.forward-requires-clause-run_of
forward-requires-clause-run_of c = c.requires.run_of

pub forward-requires-clause-stands_at : goal.forward-requires-clause-stands_at
forward-requires-clause-stands_at c = c.requires.stands_at

pub returns-in-9 : goal.returns-in-9
returns-in-9 c =
    ruled_as c.args.text.now c.args.scratch.now c.args.run.now c.args.place c.args.p
    c.args.n c.requires.ruled_by.0 9 c.in-9.is c.forward.ensures

pub call-requires-clause-run_of : goal.call-requires-clause-run_of
call-requires-clause-run_of c = c.requires.run_of

pub call-requires-clause-stands_at : goal.call-requires-clause-stands_at
call-requires-clause-stands_at c = c.requires.stands_at

pub call-requires-clause-call_in : goal.call-requires-clause-call_in
call-requires-clause-call_in c =
    call_in c.args.text.now c.args.scratch.now c.args.run.now c.args.place c.args.p c.args.n c.requires.ruled_by.0 c.requires.small_signatures
    c.in-10.is

pub returns-in-10 : goal.returns-in-10
returns-in-10 c =
    ruled_as c.args.text.now c.args.scratch.now c.args.run.now c.args.place c.args.p
    c.args.n c.requires.ruled_by.0 10 c.in-10.is c.call.ensures

pub overflow_cast-n : goal.overflow_cast-n
overflow_cast-n c =
    omega (
      arith,
      pointer_small c.args.text.now c.args.scratch.now _ c.requires.run_of.tables
          (facts_at c.args.text.now c.args.scratch.now c.args.run.now c.args.place c.args.p c.args.n c.requires.ruled_by.0 11 c.in-11.is),
    )

pub raise-requires-clause-run_of : goal.raise-requires-clause-run_of
raise-requires-clause-run_of c = c.requires.run_of

pub raise-requires-clause-stands_at : goal.raise-requires-clause-stands_at
raise-requires-clause-stands_at c = c.requires.stands_at

pub raise-requires-clause-process_in : goal.raise-requires-clause-process_in
raise-requires-clause-process_in c =
    facts_at c.args.text.now c.args.scratch.now c.args.run.now c.args.place c.args.p c.args.n c.requires.ruled_by.0 11
    c.in-11.is

pub returns-in-11 : goal.returns-in-11
returns-in-11 c =
    ruled_as c.args.text.now c.args.scratch.now c.args.run.now c.args.place
    c.args.p c.args.n c.requires.ruled_by.0 11 c.in-11.is c.raise.ensures

pub overflow_cast-n-in_default : goal.overflow_cast-n-in_default
overflow_cast-n-in_default c =
    omega (
      arith,
      pointer_small c.args.text.now c.args.scratch.now _ c.requires.run_of.tables
          (try_parts c.args.text.now c.args.scratch.now c.args.run.now c.args.place c.args.p c.args.n c.requires.ruled_by.0
          (omega arith)).0,
    )

pub overflow_cast-n-in_default-2 : goal.overflow_cast-n-in_default-2
overflow_cast-n-in_default-2 c =
    omega (
      arith,
      pointer_small c.args.text.now c.args.scratch.now _ c.requires.run_of.tables
          (try_parts c.args.text.now c.args.scratch.now c.args.run.now c.args.place c.args.p c.args.n c.requires.ruled_by.0
          (omega arith)).1,
    )

pub try_both-requires-clause-run_of : goal.try_both-requires-clause-run_of
try_both-requires-clause-run_of c =
    c.requires.run_of

pub try_both-requires-clause-stands_at : goal.try_both-requires-clause-stands_at
try_both-requires-clause-stands_at c =
    c.requires.stands_at

pub try_both-requires-clause-process_in : goal.try_both-requires-clause-process_in
try_both-requires-clause-process_in c =
    let f = try_parts c.args.text.now c.args.scratch.now c.args.run.now c.args.place
    c.args.p c.args.n c.requires.ruled_by.0 (omega arith) in f.0

pub try_both-requires-clause-process_in_2 : goal.try_both-requires-clause-process_in_2
try_both-requires-clause-process_in_2 c =
    let f = try_parts c.args.text.now c.args.scratch.now c.args.run.now c.args.place
    c.args.p c.args.n c.requires.ruled_by.0 (omega arith) in f.1

pub returns-in_default : goal.returns-in_default
returns-in_default c =
    ruled_try c.args.text.now c.args.scratch.now c.args.run.now c.args.place c.args.p c.args.n c.requires.ruled_by.0
    (omega arith) c.try_both.ensures
