use Rattle.check_declarations.specs.ProcessFaults.{call_passed, call_sought}
use Rattle.check_declarations.proofs.processes.call_faults.Goals as goal

pub returns-in-Repeated : goal.returns-in-Repeated
returns-in-Repeated c = call_passed _ _ c.in-Repeated.is

pub returns-in-Undefined : goal.returns-in-Undefined
returns-in-Undefined c = call_sought _ _ c.in-Undefined.is c.undefined_process.ensures
