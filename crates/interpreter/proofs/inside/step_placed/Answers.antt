use native.Mathlib.Omega.{arith}
use mathlib.Core.Path.{sym, ◌∙◌}
use Rattle.interpreter.specs.Told.{small_in, run_in, well_formed_in, step_halted, step_nobody, step_told}
use Rattle.interpreter.proofs.inside.step_placed.Goals as goal

pub returns-then-is_halted : goal.returns-then-is_halted
returns-then-is_halted c =
    rw c.of_call.ensures (step_halted c.requires.text_in c.requires.run_words_in_bounds.0 c.requires.run_words_in_bounds.1 (sym c.is_halted.ensures ∙ c.if-is_halted.true))

pub returns-then-count-place : goal.returns-then-count-place
returns-then-count-place c =
    rw c.of_call-then-count-place.ensures
    (step_nobody c.requires.text_in c.requires.run_words_in_bounds.0 c.requires.run_words_in_bounds.1 (sym c.is_halted.ensures ∙ c.if-is_halted.false)
    (omega (arith, c.count.ensures, c.if-count-place.true)))

pub step_at-o-requires-clause-run_of : goal.step_at-o-requires-clause-run_of
step_at-o-requires-clause-run_of c = run_in c.requires.text_in _ c.requires.run_words_in_bounds.0 c.requires.run_words_in_bounds.1

pub step_at-o-requires-clause-well_formed : goal.step_at-o-requires-clause-well_formed
step_at-o-requires-clause-well_formed c = well_formed_in c.requires.text_in _ c.requires.run_words_in_bounds.1

pub step_at-o-requires-clause-small_signatures : goal.step_at-o-requires-clause-small_signatures
step_at-o-requires-clause-small_signatures c = small_in c.requires.text_in

pub returns : goal.returns
returns c =
    step_told c.requires.text_in c.requires.run_words_in_bounds.0 c.requires.run_words_in_bounds.1 (sym c.is_halted.ensures ∙ c.if-is_halted.false)
    (omega (arith, c.count.ensures, c.if-count-place.false)) c.step_at-o.ensures c.answer_of.ensures
