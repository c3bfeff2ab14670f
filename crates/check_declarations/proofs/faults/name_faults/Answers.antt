use Rattle.check_declarations.specs.Faults.{name_passed, name_sought}
use Rattle.check_declarations.proofs.faults.name_faults.Goals as goal

pub returns-in-Repeated : goal.returns-in-Repeated
returns-in-Repeated c = name_passed _ _ c.in-Repeated.is

pub returns-in-Undefined : goal.returns-in-Undefined
returns-in-Undefined c = name_sought _ _ c.in-Undefined.is c.undefined_type.ensures
