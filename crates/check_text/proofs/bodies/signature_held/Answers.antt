use native.Mathlib.Omega.{arith}
use Rattle.check_contexts.specs.Signatures.{entries_fit}
use Rattle.check_text.specs.Bodies.{signature_so}
use Rattle.check_text.proofs.bodies.signature_held.Goals as goal

pub with_entries-provided-requires : goal.with_entries-provided-requires
with_entries-provided-requires c = (
  c.requires.0.area,
  entries_fit c.args.text.now c.args.scratch.now _ _ c.requires.0 c.requires.1.provides,
  omega (arith, c.no_ends-none.ensures.count_value, c.requires.3),
  omega arith,
)

pub overflow_add-e : goal.overflow_add-e
overflow_add-e c = omega (arith, c.requires.2)

pub with_entries-requires : goal.with_entries-requires
with_entries-requires c = (
  c.requires.0.area,
  entries_fit c.args.text.now c.args.scratch.now _ _ c.requires.0 c.requires.1.uses,
  omega (arith, c.with_entries-provided.ensures.count, c.no_ends-none.ensures.count_value, c.requires.3, c.requires.4),
  omega arith,
)

pub returns : goal.returns
returns c = signature_so c.args.text.now c.args.scratch.now _ c.no_ends-none.ensures.result_value c.with_entries-provided.ensures c.with_entries.ensures c.no_ends-none.ensures.count_value c.requires.0 c.requires.1 c.requires.3 c.requires.4
