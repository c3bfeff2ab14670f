use mathlib.Core.Path.{◌≡◌, refl}
use mathlib.Core.Bool.{beq}
use Rattle.std.specs.Prelude.{Bool, true, false, not}
use Rattle.check_declarations.specs.Reach.{differs, test_start, test_on, test_found, test_end}
use Rattle.check_declarations.proofs.reach.marks_differ.Goals as goal

-- the test of two marks
tested : (a b : Bool) → not (beq a b) ≡ differs a b
tested true true = refl
tested true false = refl
tested false true = refl
tested false false = refl

pub loop-i-init : goal.loop-i-init
loop-i-init c = test_start

pub returns-then-a-i : goal.returns-then-a-i
returns-then-a-i c = test_found c.loop-i.invariant c.loop-i-test.true (tested _ _) c.if-a-i.true

pub loop-i-preserved : goal.loop-i-preserved
loop-i-preserved c = test_on c.loop-i.invariant c.loop-i-test.true (tested _ _) refl c.if-a-i.false

pub returns : goal.returns
returns c = test_end c.loop-i.invariant c.loop-i-test.false
