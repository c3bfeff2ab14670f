use borrow.Author.Tests.{eq-eqb, ne_eqb}
use mathlib.Core.Path.{sym, ◌∙◌}
use Rattle.read_text.proofs.SignaturePaths.{entries_no, entries_type_no, entries_comma_no, entries_on_lem, entries_close_no, entries_close_got}
use Rattle.read_types.proofs.Taking.{step_no, step_at, read_no, read_at, read_left}
use Rattle.read_text.proofs.signatures.read_entries.Goals as goal

pub returns-in_err-i : goal.returns-in_err-i
returns-in_err-i c =
    let loop = c.loop-i in
    loop.invariant.whole _ _ (entries_no _ _ _ _ loop.invariant.room _ c.entry_name.ensures (step_no _ c.in_err-i.was)
    (read_left _ _ _ c.from_residual.ensures.1))

pub returns-in_err-read_type : goal.returns-in_err-read_type
returns-in_err-read_type c =
    let loop = c.loop-i in
    loop.invariant.whole _ _ (entries_type_no _ _ _ _ loop.invariant.room _ c.entry_name.ensures (step_at _ c.in_ok-i.was)
    c.read_type.ensures (read_no _ _ c.in_err-read_type.was) (read_left _ _ _ c.from_residual-in_err-read_type.ensures.1))

pub returns-in_err-expect : goal.returns-in_err-expect
returns-in_err-expect c =
    let loop = c.loop-i in
    loop.invariant.whole _ _ (entries_comma_no _ _ _ _ loop.invariant.room _ c.entry_name.ensures (step_at _ c.in_ok-i.was)
    c.read_type.ensures (read_at _ _ c.in_ok-read_type.was)
    c.put_entry.ensures (eq-eqb _ _ (sym c.kind_at.ensures ∙ c.if-kind_at-eq-COMMA.true))
    c.expect.ensures (step_no _ c.in_err-expect.was) (read_left _ _ _ c.from_residual-in_err-expect.ensures.1))

pub loop-i-preserved : goal.loop-i-preserved
loop-i-preserved c =
    let loop = c.loop-i in
    entries_on_lem _ _ _ _ loop.invariant.room _ c.entry_name.ensures (step_at _ c.in_ok-i.was)
    c.read_type.ensures (read_at _ _ c.in_ok-read_type.was)
    c.put_entry.ensures (eq-eqb _ _ (sym c.kind_at.ensures ∙ c.if-kind_at-eq-COMMA.true))
    c.expect.ensures loop.invariant (step_at _ c.in_ok-expect.was)

pub returns-in_err-expect-2 : goal.returns-in_err-expect-2
returns-in_err-expect-2 c =
    let loop = c.loop-i in
    loop.invariant.whole _ _ (entries_close_no _ _ _ _ loop.invariant.room _ c.entry_name.ensures (step_at _ c.in_ok-i.was)
    c.read_type.ensures (read_at _ _ c.in_ok-read_type.was)
    c.put_entry.ensures (ne_eqb _ _ (λ e. c.if-kind_at-eq-COMMA.false (c.kind_at.ensures ∙ e)))
    c.expect-else-kind_at-eq-COMMA.ensures (step_no _ c.in_err-expect-2.was) (read_left _ _ _ c.from_residual-in_err-expect-2.ensures.1))

pub returns-else-kind_at-eq-COMMA : goal.returns-else-kind_at-eq-COMMA
returns-else-kind_at-eq-COMMA c =
    let loop = c.loop-i in
    loop.invariant.whole _ _ (entries_close_got _ _ _ _ loop.invariant.room _ c.entry_name.ensures (step_at _ c.in_ok-i.was)
    c.read_type.ensures (read_at _ _ c.in_ok-read_type.was)
    c.put_entry.ensures (ne_eqb _ _ (λ e. c.if-kind_at-eq-COMMA.false (c.kind_at.ensures ∙ e)))
    c.expect-else-kind_at-eq-COMMA.ensures (step_at _ c.in_ok-expect-2.was))
