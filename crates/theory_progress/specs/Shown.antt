-- A step that shows something takes no process from the list, and brings none.
use Rattle.std.specs.Prelude.{ℕ, ◌≡◌, List, length}
use Rattle.std.proofs.Common.{length-set}
use Rattle.calculus.specs.Program.{Program}
use Rattle.calculus.specs.Configuration.{Process, Config}
use Rattle.calculus.specs.Steps.{carried, step}
use Rattle.calculus.specs.declared.answers.Seen.{Seen}
use Rattle.theory_progress.specs.Shapes.{Shape, one, two, joined, handled, left_out, spawned_one, tried_one, left, step_shape}
use Rattle.theory_progress.specs.RunOn.{Shows}

shape_stays : {C : Config} {k : ℕ} {seen : Seen} {l : List Process} → Shape C k seen l → Shows seen → length l ≡ length C.processes
shape_stays {C} (one j x t) s = length-set C.processes j x
shape_stays (two j h x y t u) s = absurd s
shape_stays (joined h x e d t m u) s = absurd s
shape_stays (handled x t) s = absurd s
shape_stays (left_out j h x y t u v) s = absurd s
shape_stays (spawned_one x y) s = absurd s
shape_stays (tried_one x y) s = absurd s
shape_stays (left t e) s = absurd s

pub shown_stays : (p : Program) (C D : Config) (i : ℕ) (seen : Seen) → step p C i ≡ carried seen D → Shows seen
    → length D.processes ≡ length C.processes
shown_stays p C D i seen e s = shape_stays (step_shape p C D i seen e) s
