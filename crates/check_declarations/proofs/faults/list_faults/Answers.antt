use Rattle.check_declarations.specs.Faults.{names_repeated, names_passed}
use Rattle.check_declarations.proofs.faults.list_faults.Goals as goal

pub returns-in-Repeated : goal.returns-in-Repeated
returns-in-Repeated c = names_repeated _ c.in-Repeated.is c.repeated_names.ensures

pub returns-in-Undefined : goal.returns-in-Undefined
returns-in-Undefined c = names_passed _ c.in-Undefined.is
