use mathlib.Core.Path.{◌∙◌}
use borrow.Author.Tests.{ne_eqb}
use Rattle.read_types.proofs.Taking.{step_at}
use Rattle.read_text.proofs.SignaturePaths.{close_got, no_entries}
use Rattle.read_text.proofs.signatures.entries_or_none.Goals as goal

pub returns : goal.returns
returns c =
    no_entries _ _ _ _ c.requires.0 _ (ne_eqb _ _ (λ e. c.if-kind_at-eq-NAME.false (c.kind_at.ensures ∙ e)))
    (close_got _ _ _ _ c.requires.0 _ _ c.expect.ensures (step_at _ c.in_ok-expect.was))
