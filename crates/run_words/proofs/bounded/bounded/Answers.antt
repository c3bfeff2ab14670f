use native.Mathlib.Omega.{arith}
use Rattle.run_words.specs.Raw.{raw_in}
use Rattle.run_words.specs.SliceLaws.{counted, counted_outside, numbered, halted_word}
use Rattle.run_words.proofs.Decisions.{refused, config_decided}
use Rattle.run_words.proofs.bounded.bounded.Goals as goal

pub returns-then-run-gt-PROCESS_PLACES : goal.returns-then-run-gt-PROCESS_PLACES
returns-then-run-gt-PROCESS_PLACES c =
    let run = c.args.run.now in
    refused (λ b. grind (arith, b.places, b.given, b.channels, b.halted, counted run, numbered run, counted_outside run, halted_word run))

pub processes_bounded-requires-clause-run_len_bound : goal.processes_bounded-requires-clause-run_len_bound
processes_bounded-requires-clause-run_len_bound c = omega (arith, counted c.args.run.now)

pub outside_bounded-requires-clause-run_len_bound : goal.outside_bounded-requires-clause-run_len_bound
outside_bounded-requires-clause-run_len_bound c = omega (arith, counted_outside c.args.run.now)

pub returns-then-processes_bounded : goal.returns-then-processes_bounded
returns-then-processes_bounded c =
    let run = c.args.run.now in
    config_decided (raw_in run) (omega (arith, counted run)) (omega (arith, numbered run))
    (omega (arith, counted_outside run)) (omega (arith, halted_word run))
    (c.processes_bounded.ensures.yes c.if-processes_bounded.true) c.outside_bounded.ensures
