-- The cycle of calls that reads processes.
use Prim.Native.Nat.{◌-◌}
use lib.ListN.{length}
use Rattle.read_text.proofs.BranchPaths.{Keeping}
use Rattle.read_text.specs.Turns.{ProcessRead}
use Rattle.read_text.proofs.Turning.{Through}
use Prim.Native.Nat.{◌+◌, ◌*◌}
use Rattle.read_types.specs.Filling.{unread}
use Rattle.read_text.proofs.processes.+read_bracketed_read_branches_read_handler_read_parts_read_process_read_recv_read_spawn_read_try_read_turn_receive_label_receive_one.Given as goal

abbrev pub decreases-read_bracketed : goal.decreases-read_bracketed
decreases-read_bracketed l = 4 * unread l.text.now l.c.now

abbrev pub decreases-read_branches : goal.decreases-read_branches
decreases-read_branches l = 4 * unread l.text.now l.c.now + 1

abbrev pub decreases-read_handler : goal.decreases-read_handler
decreases-read_handler l = 4 * unread l.text.now l.c.now + 3

abbrev pub decreases-read_parts : goal.decreases-read_parts
decreases-read_parts l = 4 * unread l.text.now l.c.now + 1

abbrev pub decreases-read_process : goal.decreases-read_process
decreases-read_process l = 4 * unread l.text.now l.c.now + 2

abbrev pub decreases-read_recv : goal.decreases-read_recv
decreases-read_recv l = 4 * unread l.text.now l.c.now

abbrev pub decreases-read_spawn : goal.decreases-read_spawn
decreases-read_spawn l = 4 * unread l.text.now l.c.now

abbrev pub decreases-read_try : goal.decreases-read_try
decreases-read_try l = 4 * unread l.text.now l.c.now

abbrev pub decreases-read_turn : goal.decreases-read_turn
decreases-read_turn l = 4 * unread l.text.now l.c.now + 1

abbrev pub decreases-receive_label : goal.decreases-receive_label
decreases-receive_label l = 4 * unread l.text.now l.c.now + 2

abbrev pub decreases-receive_one : goal.decreases-receive_one
decreases-receive_one l = 4 * unread l.text.now l.c.now + 2

abbrev pub invariant-read_branches-loop-i : goal.invariant-read_branches-loop-i
invariant-read_branches-loop-i l = Keeping l.text l.initial.scratch l.initial.c l.initial.k l.kept l.scratch l.c l.k l.n

abbrev pub decreases-read_branches-loop-i : goal.decreases-read_branches-loop-i
decreases-read_branches-loop-i l = length l.text - l.c.at

abbrev pub invariant-read_process-loop : goal.invariant-read_process-loop
invariant-read_process-loop l = Through (ProcessRead l.text) l.text l.initial.scratch l.initial.c l.initial.k l.scratch l.c l.k

abbrev pub decreases-read_process-loop : goal.decreases-read_process-loop
decreases-read_process-loop l = length l.text - l.c.at
