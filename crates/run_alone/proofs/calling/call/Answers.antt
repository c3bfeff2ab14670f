use mathlib.Core.Path.{refl}
use native.Mathlib.Omega.{arith}
use Rattle.run_alone.specs.Calling.{calls_nothing, signature_in, call_few, calls_on}
use Rattle.run_alone.specs.Changes.{stored, bounded_of, runs_on, pointer_small}
use Rattle.run_words.specs.Values.{running_on}
use Rattle.run_alone.proofs.calling.call.Goals as goal

pub returns-in_default : goal.returns-in_default
returns-in_default c =
    calls_nothing c.args.text.now c.args.scratch.now c.args.run.now c.args.place c.args.p c.args.name c.args.bracket c.find_process.ensures
    c.in_default.is

pub enter_call-held-requires-clause-used_bound : goal.enter_call-held-requires-clause-used_bound
enter_call-held-requires-clause-used_bound c =
    call_few c.args.text.now c.args.scratch.now c.args.run.now c.args.place c.args.p c.args.name
    c.args.bracket c.find_process.ensures _ c.in-Some.is c.declared_process-d.result
    c.declared_process-d.ensures c.requires.run_of.tables c.requires.call_in

pub overflow_cast-q : goal.overflow_cast-q
overflow_cast-q c =
    omega (
      arith,
      pointer_small c.args.text.now c.args.scratch.now _ c.requires.run_of.tables
          (signature_in c.args.text.now c.args.scratch.now c.args.run.now c.args.place c.args.p c.args.name c.args.bracket
          c.find_process.ensures _ c.in-Some.is c.declared_process-d.result c.declared_process-d.ensures
          c.requires.run_of.tables c.requires.call_in).body,
    )

pub store-requires-clause-bounded_process : goal.store-requires-clause-bounded_process
store-requires-clause-bounded_process c =
    let declared-process = c.declared_process-d in bounded_of c.args.text.now c.args.scratch.now
    (runs_on c.requires.run_of.tables (running_on declared-process.result.body c.enter_call-held.result c.args.p) refl c.requires.stands_at.is.link
    (signature_in c.args.text.now c.args.scratch.now c.args.run.now c.args.place c.args.p c.args.name c.args.bracket
    c.find_process.ensures _ c.in-Some.is declared-process.result declared-process.ensures c.requires.run_of.tables c.requires.call_in).body
    c.enter_call-held.ensures.fits)

pub returns : goal.returns
returns c =
    let enter-call = c.enter_call-held in
    let declared-process = c.declared_process-d in
    let find-process = c.find_process in
    let text = c.args.text.now in
    let scratch = c.args.scratch.now in
    let run = c.args.run.now in
    let place = c.args.place in
    let p = c.args.p in
    calls_on text scratch run place p c.args.name c.args.bracket find-process.ensures _ c.in-Some.is declared-process.result declared-process.ensures c.requires.run_of.tables
    c.requires.call_in _ enter-call.result enter-call.ensures (stored text scratch run _ c.requires.run_of place _
    (runs_on c.requires.run_of.tables (running_on declared-process.result.body enter-call.result c.args.p) refl c.requires.stands_at.is.link
    (signature_in text scratch run place p c.args.name c.args.bracket find-process.ensures _ c.in-Some.is declared-process.result declared-process.ensures
    c.requires.run_of.tables c.requires.call_in).body enter-call.ensures.fits) c.store.ensures.changed c.store.ensures.still_bounded)
