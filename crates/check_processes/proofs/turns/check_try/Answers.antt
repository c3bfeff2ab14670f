use Rattle.check_contexts.specs.Halves.{held_bounded, keeps_so}
use Rattle.notation.specs.Refusals.{refuses}
use Rattle.check_processes.specs.Nodes.{try_at}
use Rattle.check_processes.specs.Spawns.{try_refused, try_halves}
use Rattle.check_processes.specs.Turns.{turned_given, turned_halves}
use Rattle.check_processes.proofs.turns.check_try.Goals as goal

pub half_takes-first-requires : goal.half_takes-first-requires
half_takes-first-requires c = (c.requires.0, (try_at _ _ _ c.args.n c.requires.2 c.requires.3).0.1, c.requires.1.many)

pub half_takes-second-requires : goal.half_takes-second-requires
half_takes-second-requires c = (c.requires.0, (try_at _ _ _ c.args.n c.requires.2 c.requires.3).1.1, c.requires.1.many)

pub divides-requires : goal.divides-requires
divides-requires c = c.requires.1.many

pub returns-then-not-divides : goal.returns-then-not-divides
returns-then-not-divides c =
    let refused = try_refused _ _ c.args.h _ c.args.n c.requires.2 c.requires.3 c.requires.1 c.half_takes-first.ensures c.half_takes-second.ensures c.if-not-divides.ensures in
    rw c.refused.ensures (turned_given (refuses 13 _) refused)

pub keep-a-requires : goal.keep-a-requires
keep-a-requires c = (c.requires.1.many, held_bounded c.requires.1)

pub keep-b-requires : goal.keep-b-requires
keep-b-requires c = (c.requires.1.many, held_bounded c.requires.1)

pub returns : goal.returns
returns c =
    let tries = try_at _ _ _ c.args.n c.requires.2 c.requires.3 in
    let held = c.requires.1 in
    let first = c.half_takes-first.ensures in
    let second = c.half_takes-second.ensures in
    rw c.halves.ensures
    (turned_halves _ _ _ _
    (try_halves _ _ c.args.h _ c.args.n c.requires.2 c.requires.3 held first second c.if-not-divides.ensures _ _ c.keep-a.ensures c.keep-b.ensures)
    (record { held = (keeps_so first held c.keep-a.ensures).fits; process = tries.0.1 })
    (record { held = (keeps_so second held c.keep-b.ensures).fits; process = tries.1.1 }) tries.2)
