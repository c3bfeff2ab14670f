use mathlib.Core.Path.{sym, subst}
use mathlib.Core.Bool.{true, false}
use native.Mathlib.Omega.{arith}
use Rattle.notation.specs.Refusals.{refuses}
use Rattle.read_tables.specs.Access.{node_there}
use Rattle.read_tables.specs.Roots.{TypeIn}
use Rattle.check_contexts.specs.Halves.{held_bounded}
use Rattle.check_processes.specs.Nodes.{spawn_at}
use Rattle.check_processes.specs.Spawns.{half_has_room, half_so, spawn_refused, spawn_halves}
use Rattle.check_processes.specs.Turns.{turned_given, turned_halves}
use Rattle.check_processes.proofs.turns.check_spawn.Goals as goal

pub half_takes-taken-requires : goal.half_takes-taken-requires
half_takes-taken-requires c = (c.requires.0, (spawn_at _ _ _ c.args.n c.requires.2 c.requires.3).1.1, c.requires.1.many)

pub check_halves-requires-clause-tables : goal.check_halves-requires-clause-tables
check_halves-requires-clause-tables c = (c.requires.0, c.requires.1, (spawn_at _ _ _ c.args.n c.requires.2 c.requires.3).2.1)

pub check_halves-requires-clause-takes : goal.check_halves-requires-clause-takes
check_halves-requires-clause-takes c = c.half_takes-taken.ensures

pub returns-in-Err : goal.returns-in-Err
returns-in-Err c = rw c.refused.ensures (turned_given (refuses _ _) (spawn_refused _ _ _ _ c.args.n c.requires.2 c.requires.3 c.in-Err.ensures))

pub narrow-name-requires : goal.narrow-name-requires
narrow-name-requires c = omega (arith, c.requires.2.at)

pub narrow-node-requires : goal.narrow-node-requires
narrow-node-requires c = omega (arith, node_there _ _ c.requires.0 _ (spawn_at _ _ _ c.args.n c.requires.2 c.requires.3).0)

pub spawn_half-a-requires-clause-count_le_held_limit : goal.spawn_half-a-requires-clause-count_le_held_limit
spawn_half-a-requires-clause-count_le_held_limit c = (
  c.requires.1.many,
  held_bounded c.requires.1,
  half_has_room _ _ _ c.args.n c.half_takes-taken.ensures c.requires.1 true c.in_default.ensures,
)

pub spawn_half-a-requires-clause-name_lt_text_limit : goal.spawn_half-a-requires-clause-name_lt_text_limit
spawn_half-a-requires-clause-name_lt_text_limit c =
    let node = node_there _ _ c.requires.0 _ (spawn_at _ _ _ c.args.n c.requires.2 c.requires.3).0 in
    (omega (arith, c.requires.2.at, c.narrow-name.ensures), omega (arith, node, c.narrow-node.ensures), omega arith)

pub spawn_half-b-requires-clause-count_le_held_limit : goal.spawn_half-b-requires-clause-count_le_held_limit
spawn_half-b-requires-clause-count_le_held_limit c = (
  c.requires.1.many,
  held_bounded c.requires.1,
  half_has_room _ _ _ c.args.n c.half_takes-taken.ensures c.requires.1 false c.in_default.ensures,
)

pub spawn_half-b-requires-clause-name_lt_text_limit : goal.spawn_half-b-requires-clause-name_lt_text_limit
spawn_half-b-requires-clause-name_lt_text_limit c =
    let node = node_there _ _ c.requires.0 _ (spawn_at _ _ _ c.args.n c.requires.2 c.requires.3).0 in
    (omega (arith, c.requires.2.at, c.narrow-name.ensures), omega (arith, node, c.narrow-node.ensures), omega arith)

pub returns : goal.returns
returns c =
    let spawns = spawn_at _ _ _ c.args.n c.requires.2 c.requires.3 in
    let takes = c.half_takes-taken.ensures in
    let held = c.requires.1 in
    let type = subst (TypeIn c.args.text.now c.args.scratch.now) (sym c.narrow-node.ensures) spawns.0 in
    let first = half_so _ _ _ c.args.n takes held true c.narrow-name.ensures c.narrow-node.ensures c.spawn_half-a.ensures in
    let second = half_so _ _ _ c.args.n takes held false c.narrow-name.ensures c.narrow-node.ensures c.spawn_half-b.ensures in
    rw c.halves.ensures
    (turned_halves _ _ _ _ (spawn_halves _ _ _ _ c.args.n c.requires.2 c.requires.3 c.in_default.ensures _ _ first second)
    (record { held = c.spawn_half-a.ensures.fits takes held type; process = spawns.1.1 })
    (record { held = c.spawn_half-b.ensures.fits takes held type; process = spawns.2.1 }) spawns.3)
