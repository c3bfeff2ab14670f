use Prim.Native.Nat.{◌-◌}
use lib.ListN.{length}
use Rattle.read_text.specs.Scripts.{ScriptRead, Counted}
use Rattle.read_text.proofs.Turning.{Through}
use Rattle.read_text.proofs.scripts.read_script.Given as goal

abbrev pub invariant-loop-kind : goal.invariant-loop-kind
invariant-loop-kind l = Through (ScriptRead l.text) l.text l.initial.scratch l.initial.c l.initial.k l.scratch l.c l.k × Counted l.k

abbrev pub decreases-loop-kind : goal.decreases-loop-kind
decreases-loop-kind l = length l.text - l.c.at
