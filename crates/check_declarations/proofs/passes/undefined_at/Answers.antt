use Rattle.check_declarations.specs.Lowest.{lowered_as, lowered_then}
use Rattle.check_declarations.specs.DeclarationFaults.{undefined_in}
use Rattle.check_declarations.proofs.passes.undefined_at.Goals as goal

pub returns : goal.returns
returns c = lowered_as (undefined_in _ _) (lowered_then c.types_faults-l.ensures (lowered_then c.processes_faults-m.ensures c.undefined_execs.ensures))
