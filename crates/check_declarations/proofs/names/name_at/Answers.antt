use Rattle.check_declarations.specs.Names.{fits_types, fits_processes, fits_entries, fits_alternatives, fits_branches, type_stands, process_stands, entry_stands, alternative_stands, branch_stands}
use native.Mathlib.Omega.{arith}
use Rattle.check_declarations.proofs.names.name_at.Goals as goal

pub declared_type-t-requires : goal.declared_type-t-requires
declared_type-t-requires c = (c.requires.0, fits_types _ c.requires.1 c.in-Types.is)

pub declared_process-p-requires : goal.declared_process-p-requires
declared_process-p-requires c = (c.requires.0, fits_processes _ c.requires.1 c.in-Processes.is)

pub overflow_add-i : goal.overflow_add-i
overflow_add-i c = omega (arith, fits_entries _ c.requires.1 c.in-Entries.is)

pub entry-e-requires : goal.entry-e-requires
entry-e-requires c = (c.requires.0, fits_entries _ c.requires.1 c.in-Entries.is)

pub overflow_sub-e : goal.overflow_sub-e
overflow_sub-e c = (fits_alternatives _ c.requires.1 c.in-Alternatives.is).0

pub alternative-a-requires : goal.alternative-a-requires
alternative-a-requires c = let f = fits_alternatives _ c.requires.1 c.in-Alternatives.is in (c.requires.0, f.1, f.2)

pub overflow_sub-e-in-Branches : goal.overflow_sub-e-in-Branches
overflow_sub-e-in-Branches c = (fits_branches _ c.requires.1 c.in-Branches.is).0

pub branch-b-requires : goal.branch-b-requires
branch-b-requires c = let f = fits_branches _ c.requires.1 c.in-Branches.is in (c.requires.0, f.1, f.2)

pub returns-in-Types : goal.returns-in-Types
returns-in-Types c = type_stands c.in-Types.is c.declared_type-t.ensures c.name.ensures

pub returns-in-Processes : goal.returns-in-Processes
returns-in-Processes c = process_stands c.in-Processes.is c.declared_process-p.ensures c.name-in-Processes.ensures

pub returns-in-Entries : goal.returns-in-Entries
returns-in-Entries c = entry_stands c.in-Entries.is c.entry-e.ensures c.name-in-Entries.ensures

pub returns-in-Alternatives : goal.returns-in-Alternatives
returns-in-Alternatives c = alternative_stands c.in-Alternatives.is c.alternative-a.ensures c.label.ensures

pub returns-in-Branches : goal.returns-in-Branches
returns-in-Branches c = branch_stands c.in-Branches.is c.branch-b.ensures c.label-in-Branches.ensures
