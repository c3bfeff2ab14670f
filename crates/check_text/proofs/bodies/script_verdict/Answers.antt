use mathlib.Core.Path.{ap, sym, ◌∙◌}
use Rattle.calculus.specs.Verdict.{verdict_of}
use Rattle.check_processes.specs.Process.{then_refused, then_fine}
use Rattle.check_text.proofs.bodies.script_verdict.Goals as goal

pub returns-in_err-declared_verdict : goal.returns-in_err-declared_verdict
returns-in_err-declared_verdict c = then_refused _ _ c.from_residual.ensures.1 (sym (ap verdict_of c.in_err-declared_verdict.was) ∙ c.declared_verdict.ensures)

pub returns : goal.returns
returns c = c.check_bodies.ensures ∙ then_fine _ (sym (ap verdict_of c.in_ok-declared_verdict.was) ∙ c.declared_verdict.ensures)
