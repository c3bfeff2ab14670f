use native.Mathlib.Omega.{arith}
use Rattle.check_contexts.specs.Halves.{keeps_so, held_bounded}
use Rattle.check_processes.specs.Spawns.{apart_by, spawn_shared, spawn_known, spawn_full, spawn_full_rest, spawn_fine}
use Rattle.check_processes.proofs.rules.check_halves.Goals as goal

pub half_takes-shared-requires : goal.half_takes-shared-requires
half_takes-shared-requires c = (c.requires.tables.0, c.requires.tables.2, c.requires.tables.1.many)

pub divides-requires : goal.divides-requires
divides-requires c = c.requires.tables.1.many

pub returns-then-not-divides : goal.returns-then-not-divides
returns-then-not-divides c =
    let apart = apart_by _ _ _ c.args.n c.requires.takes c.requires.tables.1 c.half_takes-shared.ensures c.if-not-divides.ensures in
    spawn_shared _ _ c.args.h _ apart

pub is_new-requires : goal.is_new-requires
is_new-requires c = c.requires.tables.1.many

pub returns-then-not-is_new : goal.returns-then-not-is_new
returns-then-not-is_new c =
    let apart = apart_by _ _ _ c.args.n c.requires.takes c.requires.tables.1 c.half_takes-shared.ensures c.if-not-divides.ensures in
    spawn_known _ _ c.args.h _ apart (c.if-not-is_new.ensures c.args.scratch.now)

pub keep-a-requires : goal.keep-a-requires
keep-a-requires c = (c.requires.tables.1.many, held_bounded c.requires.tables.1)

pub returns-then-a-eq-HELD : goal.returns-then-a-eq-HELD
returns-then-a-eq-HELD c =
    let apart = apart_by _ _ _ c.args.n c.requires.takes c.requires.tables.1 c.half_takes-shared.ensures c.if-not-divides.ensures in
    let taken = keeps_so c.requires.takes c.requires.tables.1 c.keep-a.ensures in
    spawn_full _ _ c.args.h _ apart (c.if-not-is_new.ensures c.args.scratch.now) taken c.if-a-eq-HELD.true

pub keep-b-requires : goal.keep-b-requires
keep-b-requires c = (c.requires.tables.1.many, held_bounded c.requires.tables.1)

pub returns-then-b-eq-HELD : goal.returns-then-b-eq-HELD
returns-then-b-eq-HELD c =
    let apart = apart_by _ _ _ c.args.n c.requires.takes c.requires.tables.1 c.half_takes-shared.ensures c.if-not-divides.ensures in
    let taken = keeps_so c.requires.takes c.requires.tables.1 c.keep-a.ensures in
    let left = keeps_so c.requires.takes c.requires.tables.1 c.keep-b.ensures in
    spawn_full_rest _ _ c.args.h _ apart (c.if-not-is_new.ensures c.args.scratch.now) taken
    (omega (arith, taken.fits.many, c.if-a-eq-HELD.false)) left c.if-b-eq-HELD.true

pub returns : goal.returns
returns c =
    let apart = apart_by _ _ _ c.args.n c.requires.takes c.requires.tables.1 c.half_takes-shared.ensures c.if-not-divides.ensures in
    let taken = keeps_so c.requires.takes c.requires.tables.1 c.keep-a.ensures in
    let left = keeps_so c.requires.takes c.requires.tables.1 c.keep-b.ensures in
    spawn_fine _ _ c.args.h _ apart (c.if-not-is_new.ensures c.args.scratch.now) taken
    (omega (arith, taken.fits.many, c.if-a-eq-HELD.false)) left (omega (arith, left.fits.many, c.if-b-eq-HELD.false))
