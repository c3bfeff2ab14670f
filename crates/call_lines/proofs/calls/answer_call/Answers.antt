use mathlib.Core.Path.{refl}
use Rattle.call_lines.specs.Answering.{line_answered_lem}
use Rattle.call_lines.proofs.calls.answer_call.Goals as goal

pub returns-in-Start-clause-line_answered : goal.returns-in-Start-clause-line_answered
returns-in-Start-clause-line_answered c = line_answered_lem _ c.in-Start.is c.call_start.ensures

pub returns-in-Step-clause-line_answered : goal.returns-in-Step-clause-line_answered
returns-in-Step-clause-line_answered c = line_answered_lem _ c.in-Step.is c.call_step.ensures

pub returns-in-Run-clause-line_answered : goal.returns-in-Run-clause-line_answered
returns-in-Run-clause-line_answered c = line_answered_lem _ c.in-Run.is c.call_run_on.ensures

pub returns-in-Report-clause-line_answered : goal.returns-in-Report-clause-line_answered
returns-in-Report-clause-line_answered c = line_answered_lem _ c.in-Report.is c.call_report.ensures

pub returns-in-Places-clause-line_answered : goal.returns-in-Places-clause-line_answered
returns-in-Places-clause-line_answered c = line_answered_lem _ c.in-Places.is c.call_places.ensures

pub returns-in-Name-clause-line_answered : goal.returns-in-Name-clause-line_answered
returns-in-Name-clause-line_answered c = line_answered_lem _ c.in-Name.is (record { answered = c.call_name.ensures; run = refl })
