use native.Mathlib.Omega.{arith}
use mathlib.Core.Path.{ap}
use lib.ListN.{length}
use Rattle.run_words.specs.Raw.{RawConfig}
use Rattle.run_steps.specs.Starting.{start_held_lem, ends_bounded, begun}
use Rattle.run_steps.proofs.starting.begin_process.Goals as goal

pub with_entries-held-requires : goal.with_entries-held-requires
with_entries-held-requires c = (c.requires.area.0, c.requires.area.1, omega (arith, c.requires.area.2, c.no_ends-none.ensures.count_value), omega arith)

pub overflow_cast-first : goal.overflow_cast-first
overflow_cast-first c = omega (arith, c.requires.area.3)

pub begin-requires-clause-run_words_in_bounds : goal.begin-requires-clause-run_words_in_bounds
begin-requires-clause-run_words_in_bounds c = c.requires.run_words_in_bounds

pub begin-requires-clause-bounded_process : goal.begin-requires-clause-bounded_process
begin-requires-clause-bounded_process c = let b = ends_bounded _ (start_held_lem c.no_ends-none.ensures.result_value c.with_entries-held.ensures) c.requires.area.1 c.requires.area.2 in record { kind = omega arith; pointer = c.requires.area.3; many = b.0; each = b.1; link = tt }

pub use_channels-requires-clause-area : goal.use_channels-requires-clause-area
use_channels-requires-clause-area c = (c.requires.area.0, c.requires.area.1)

pub use_channels-requires-clause-run_words_in_bounds : goal.use_channels-requires-clause-run_words_in_bounds
use_channels-requires-clause-run_words_in_bounds c = (
  omega (arith, c.requires.run_words_in_bounds, c.begin.ensures.changed.long),
  c.begin.ensures.bounded,
  omega (arith, c.requires.area.2, ap (λ (C : RawConfig). length C.outside) c.begin.ensures.changed.is),
)

pub overflow_cast-d : goal.overflow_cast-d
overflow_cast-d c = omega (arith, c.requires.area.2)

pub set_given-requires-clause-run_words_in_bounds : goal.set_given-requires-clause-run_words_in_bounds
set_given-requires-clause-run_words_in_bounds c = omega (arith, c.requires.run_words_in_bounds, c.begin.ensures.changed.long, c.use_channels.ensures.changed.long)

pub set_given-requires-clause-bounded : goal.set_given-requires-clause-bounded
set_given-requires-clause-bounded c = c.use_channels.ensures.bounded

pub set_given-requires-clause-n_le_outside_numbers : goal.set_given-requires-clause-n_le_outside_numbers
set_given-requires-clause-n_le_outside_numbers c = omega (arith, c.requires.area.2)

pub returns-clause-changed : goal.returns-clause-changed
returns-clause-changed c =
    let d = c.args.d in
    let held = start_held_lem c.no_ends-none.ensures.result_value c.with_entries-held.ensures in begun c.args.scratch.now d.first d.provided d.body _ held c.begin.ensures.changed
    c.use_channels.ensures.changed c.set_given.ensures.changed

pub returns-clause-bounded : goal.returns-clause-bounded
returns-clause-bounded c =
    c.set_given.ensures.still_bounded
