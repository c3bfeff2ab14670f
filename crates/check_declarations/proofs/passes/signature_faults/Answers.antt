use mathlib.Core.Logic.{⊎_elim}
use native.Mathlib.Omega.{arith}
use Rattle.check_declarations.specs.Lowest.{lowered_then}
use Rattle.check_declarations.specs.DeclarationFaults.{signature_fits, names_room, provided_room, process_walked}
use Rattle.check_declarations.proofs.passes.signature_faults.Goals as goal

pub overflow_add-d : goal.overflow_add-d
overflow_add-d c = omega (arith, names_room _ _ c.requires.0 (c.declared_process-d.ensures.stands _ c.requires.0 c.requires.1))

pub list_faults-l-requires : goal.list_faults-l-requires
list_faults-l-requires c = (c.requires.0, signature_fits _ _ c.requires.0 (c.declared_process-d.ensures.stands _ c.requires.0 c.requires.1))

pub entries_faults-m-requires : goal.entries_faults-m-requires
entries_faults-m-requires c = (c.requires.0, (c.declared_process-d.ensures.stands _ c.requires.0 c.requires.1).provides)

pub overflow_add-d-2 : goal.overflow_add-d-2
overflow_add-d-2 c = ⊎_elim (λ h. omega (arith, h)) (λ h. omega (arith, h)) (provided_room _ _ c.requires.0 (c.declared_process-d.ensures.stands _ c.requires.0 c.requires.1))

pub entries_faults-o-requires : goal.entries_faults-o-requires
entries_faults-o-requires c = (c.requires.0, (c.declared_process-d.ensures.stands _ c.requires.0 c.requires.1).uses)

pub process_faults-requires : goal.process_faults-requires
process_faults-requires c = (c.requires.0, (c.declared_process-d.ensures.stands _ c.requires.0 c.requires.1).body)

pub returns : goal.returns
returns c =
    process_walked _ _ c.args.pass c.declared_process-d.ensures
    (lowered_then c.list_faults-l.ensures
    (lowered_then c.entries_faults-m.ensures (lowered_then c.entries_faults-o.ensures c.process_faults.ensures)))
