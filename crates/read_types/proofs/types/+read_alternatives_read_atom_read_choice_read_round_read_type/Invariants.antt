-- The cycle of calls that reads types.
use Prim.Native.Nat.{◌-◌}
use lib.ListN.{length}
use Rattle.read_types.proofs.Gathering.{Gathered}
use Rattle.read_types.proofs.Chains.{Chain}
use Prim.Native.Nat.{◌+◌, ◌*◌}
use Rattle.read_types.specs.Filling.{unread}
use Rattle.read_types.proofs.types.+read_alternatives_read_atom_read_choice_read_round_read_type.Given as goal

abbrev pub decreases-read_alternatives : goal.decreases-read_alternatives
decreases-read_alternatives l = 3 * unread l.text.now l.c.now + 1

abbrev pub decreases-read_atom : goal.decreases-read_atom
decreases-read_atom l = 3 * unread l.text.now l.c.now + 1

abbrev pub decreases-read_choice : goal.decreases-read_choice
decreases-read_choice l = 3 * unread l.text.now l.c.now

abbrev pub decreases-read_round : goal.decreases-read_round
decreases-read_round l = 3 * unread l.text.now l.c.now

abbrev pub decreases-read_type : goal.decreases-read_type
decreases-read_type l = 3 * unread l.text.now l.c.now + 2

abbrev pub invariant-read_alternatives-loop-i : goal.invariant-read_alternatives-loop-i
invariant-read_alternatives-loop-i l = Gathered l.text l.initial.scratch l.initial.c l.initial.k l.kept l.scratch l.c l.k l.n

abbrev pub decreases-read_alternatives-loop-i : goal.decreases-read_alternatives-loop-i
decreases-read_alternatives-loop-i l = length l.text - l.c.at

abbrev pub invariant-read_type-loop-next : goal.invariant-read_type-loop-next
invariant-read_type-loop-next l = Chain l.text l.initial.scratch l.initial.c l.initial.k l.scratch l.c l.k l.mark l.left l.root

abbrev pub decreases-read_type-loop-next : goal.decreases-read_type-loop-next
decreases-read_type-loop-next l = length l.text - l.c.at
