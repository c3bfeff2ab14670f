use Rattle.calculus.specs.Declarations.{declared}
use Rattle.check_declarations.specs.Verdicts.{pass, stops, goes_on_lem}
use Rattle.check_declarations.proofs.verdict.declared_verdict.Goals as goal

pub returns-in_err-refusal : goal.returns-in_err-refusal
unfolding declared
returns-in_err-refusal c = stops (pass c.repeated_at.ensures c.refusal.ensures) c.in_err-refusal.was _ c.from_residual.ensures.1 _

pub returns-in_err-refusal-2 : goal.returns-in_err-refusal-2
unfolding declared
returns-in_err-refusal-2 c =
    goes_on_lem (pass c.repeated_at.ensures c.refusal.ensures) c.in_ok-refusal.was
    (stops (pass c.undefined_at.ensures c.refusal-2.ensures) c.in_err-refusal-2.was _ c.from_residual-in_err-refusal-2.ensures.1 _)

pub returns-in_err-refusal-3 : goal.returns-in_err-refusal-3
unfolding declared
returns-in_err-refusal-3 c =
    goes_on_lem (pass c.repeated_at.ensures c.refusal.ensures) c.in_ok-refusal.was
    (goes_on_lem (pass c.undefined_at.ensures c.refusal-2.ensures) c.in_ok-refusal-2.was
    (stops (pass c.bare_names.ensures c.refusal-3.ensures) c.in_err-refusal-3.was _ c.from_residual-in_err-refusal-3.ensures.1 _))

pub returns : goal.returns
unfolding declared
returns c =
    goes_on_lem (pass c.repeated_at.ensures c.refusal.ensures) c.in_ok-refusal.was
    (goes_on_lem (pass c.undefined_at.ensures c.refusal-2.ensures) c.in_ok-refusal-2.was
    (goes_on_lem (pass c.bare_names.ensures c.refusal-3.ensures) c.in_ok-refusal-3.was (pass c.wrong_execs.ensures c.refusal-4.ensures).says))
