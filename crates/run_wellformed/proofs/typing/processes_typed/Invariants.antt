use mathlib.Core.Path.{◌≡◌}
use Prim.Native.Nat.{◌≤◌}
use mathlib.Core.Bool.{true}
use Rattle.notation.specs.Limits.{held_limit}
use Rattle.run_words.specs.Values as runs
use Rattle.run_wellformed.specs.Typing.{typed_in}
use Rattle.run_words.specs.Raw.{raw_in}
use Rattle.run_joints.specs.Tests.{Each}
use Rattle.run_wellformed.proofs.typing.processes_typed.Given as goal

abbrev pub invariant-loop-i : goal.invariant-loop-i
invariant-loop-i l = Each (λ _. typed_in l.text l.scratch) (raw_in l.run).processes l.i × (l.last.held.count ≤ held_limit) × (typed_in l.text l.scratch (runs.process_in l.last) ≡ true)
