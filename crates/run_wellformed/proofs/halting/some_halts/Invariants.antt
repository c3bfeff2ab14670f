use mathlib.Core.Bool.{not}
use Rattle.run_words.specs.Raw.{raw_in}
use Rattle.run_joints.specs.Tests.{Each}
use Rattle.run_wellformed.specs.Halting.{halts_in}
use Rattle.run_wellformed.proofs.halting.some_halts.Given as goal

abbrev pub invariant-loop-i : goal.invariant-loop-i
invariant-loop-i l = Each (λ _ q. not (halts_in l.text l.scratch (raw_in l.run) q)) (raw_in l.run).processes l.i
