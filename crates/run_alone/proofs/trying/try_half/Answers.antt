use mathlib.Core.Path.{sym, subst}
use Rattle.read_tables.specs.Roots.{ProcessIn}
use Rattle.run_alone.specs.Trying.{half_tried}
use Rattle.check_contexts.specs.Halves.{keeps_so, held_bounded}
use Rattle.run_alone.proofs.trying.try_half.Goals as goal

pub half_takes-taken-requires : goal.half_takes-taken-requires
half_takes-taken-requires c = (c.requires.tables, subst (ProcessIn c.args.text.now c.args.scratch.now) (sym c.wide-p.ensures.value) c.requires.process_in, c.requires.held_in.many)

pub keep-requires : goal.keep-requires
keep-requires c = (c.requires.held_in.many, held_bounded c.requires.held_in)

pub returns : goal.returns
returns c = half_tried _ _ c.wide-p.ensures.value (keeps_so c.half_takes-taken.ensures c.requires.held_in c.keep.ensures)
