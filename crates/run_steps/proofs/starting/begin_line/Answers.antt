use native.Mathlib.Omega.{arith}
use Rattle.run_alone.specs.Changes.{pointer_small}
use Rattle.check_contexts.specs.Signatures.{entries_fit}
use Rattle.run_steps.specs.Starting.{begins_nowhere, begins_nothing, start_signature, start_few, begins_on}
use Rattle.run_steps.proofs.starting.begin_line.Goals as goal

pub exec_count-requires : goal.exec_count-requires
exec_count-requires c = c.requires.tables.area

pub returns-then-exec_count-line : goal.returns-then-exec_count-line
returns-then-exec_count-line c = begins_nowhere c.args.text.now c.args.scratch.now c.args.run.now c.args.line (omega (arith, c.if-exec_count-line.true, c.exec_count.ensures))

pub exec_at-at-requires : goal.exec_at-at-requires
exec_at-at-requires c = (c.requires.tables.area, omega (arith, c.if-exec_count-line.false, c.exec_count.ensures, c.requires.tables.within.2))

pub find_process-requires : goal.find_process-requires
find_process-requires c = c.requires.tables

pub returns-in_default : goal.returns-in_default
returns-in_default c =
    begins_nothing c.args.text.now c.args.scratch.now c.args.run.now c.args.line _ (omega (arith, c.if-exec_count-line.false, c.exec_count.ensures))
    c.exec_at-at.ensures c.find_process.ensures c.in_default.is

pub declared_process-d-requires : goal.declared_process-d-requires
declared_process-d-requires c = (c.requires.tables.area, omega (arith, c.find_process.ensures.below _ c.in-Some.is, c.requires.tables.within.1))

pub begin_process-requires-clause-area : goal.begin_process-requires-clause-area
begin_process-requires-clause-area c =
    let find-process = c.find_process in
    let exec-at = c.exec_at-at in
    let if1 = c.if-exec_count-line in
    let exec-count = c.exec_count in
    let text = c.args.text.now in
    let scratch = c.args.scratch.now in
    let run = c.args.run.now in
    let a = start_signature text scratch run c.args.line _ (omega (arith, if1.false, exec-count.ensures)) exec-at.ensures find-process.ensures _ c.in-Some.is _
    c.declared_process-d.ensures c.requires.tables c.requires.small_signatures in (
      c.requires.tables.area,
      entries_fit text scratch _ _ c.requires.tables a.provides,
      start_few text scratch run c.args.line _ (omega (arith, if1.false, exec-count.ensures))
          exec-at.ensures find-process.ensures _ c.in-Some.is _ c.declared_process-d.ensures c.requires.tables c.requires.small_signatures,
      pointer_small text scratch _ c.requires.tables a.body,
    )

pub begin_process-requires-clause-run_words_in_bounds : goal.begin_process-requires-clause-run_words_in_bounds
begin_process-requires-clause-run_words_in_bounds c =
    c.requires.run_words_in_bounds

pub returns : goal.returns
returns c =
    begins_on c.args.text.now c.args.scratch.now c.args.run.now c.args.line _ (omega (arith, c.if-exec_count-line.false, c.exec_count.ensures))
    c.exec_at-at.ensures c.find_process.ensures _ c.in-Some.is _ c.declared_process-d.ensures
    c.requires.tables c.requires.small_signatures _ c.requires.run_words_in_bounds c.begin_process.ensures.changed c.begin_process.ensures.bounded
