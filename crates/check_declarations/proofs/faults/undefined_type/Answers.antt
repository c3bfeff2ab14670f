use Rattle.check_declarations.specs.Faults.{name_defined, name_undefined}
use Rattle.check_declarations.proofs.faults.undefined_type.Goals as goal

pub returns-in_default : goal.returns-in_default
returns-in_default c = name_undefined _ _ c.find_type-f.ensures c.in_default.is c.lowered.ensures

pub returns : goal.returns
returns c = name_defined _ _ c.find_type-f.ensures c.in-Some.is
