use borrow.Author.Tests.{eq-eqb, ne_eqb}
use mathlib.Core.Path.{sym, ◌∙◌}
use Rattle.read_types.proofs.Taking.{step_no, step_at}
use Rattle.read_text.proofs.NamePaths.{passed_left, names_on, names_no, names_comma_no, names_end}
use Rattle.read_text.proofs.names.read_names.Goals as goal

pub returns-in_err-expect : goal.returns-in_err-expect
returns-in_err-expect c =
    c.loop-c.invariant.whole _ (names_no _ _ _ c.expect.ensures (step_no _ c.in_err-expect.was) (passed_left _ _ _ c.from_residual.ensures.1))

pub loop-c-preserved : goal.loop-c-preserved
loop-c-preserved c =
    names_on c.loop-c.invariant c.expect.ensures
    (step_at _ c.in_ok-expect.was) (eq-eqb _ _ (sym c.kind_at.ensures ∙ c.if-kind_at-eq-COMMA.true))
    c.expect-then-kind_at-eq-COMMA.ensures (step_at _ c.in_ok-expect-2.was)

pub returns-in_err-expect-2 : goal.returns-in_err-expect-2
returns-in_err-expect-2 c =
    c.loop-c.invariant.whole _ (names_comma_no _ _ _ c.expect.ensures
    (step_at _ c.in_ok-expect.was) (eq-eqb _ _ (sym c.kind_at.ensures ∙ c.if-kind_at-eq-COMMA.true))
    c.expect-then-kind_at-eq-COMMA.ensures (step_no _ c.in_err-expect-2.was) (passed_left _ _ _ c.from_residual-in_err-expect-2.ensures.1))

pub returns-else-kind_at-eq-COMMA : goal.returns-else-kind_at-eq-COMMA
returns-else-kind_at-eq-COMMA c =
    c.loop-c.invariant.whole _
    (names_end _ _ _ c.expect.ensures (step_at _ c.in_ok-expect.was)
    (ne_eqb _ _ (λ e. c.if-kind_at-eq-COMMA.false (c.kind_at.ensures ∙ e))) c.list_end.ensures)
