use Rattle.check_declarations.specs.Lowest.{lowered_as, lowered_then}
use Rattle.check_declarations.specs.DeclarationFaults.{repeated_in}
use Rattle.check_declarations.proofs.passes.repeated_at.Goals as goal

pub returns : goal.returns
returns c =
    lowered_as (repeated_in _ _ c.type_count-types.ensures c.process_count-processes.ensures)
    (lowered_then c.repeated_names-l.ensures (lowered_then c.repeated_names-m.ensures
    (lowered_then c.types_faults-o.ensures c.processes_faults.ensures)))
