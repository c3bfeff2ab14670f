-- The names that repeat one before, over a walk to the end of their list.
use Rattle.std.specs.Prelude.{ℕ, ◌≤◌}
use Rattle.std.proofs.Math.Path.{refl}
use mathlib.Core.List.{[]}
use Rattle.notation.specs.Tree.{Located}
use Rattle.calculus.specs.Declarations.{repeats}
use Rattle.read_tables.specs.Decode.{numbered}
use Rattle.check_declarations.specs.Lowest.{Lowest, Lowered, lowered_as, Walking, walk_end}
use Rattle.check_declarations.specs.Names.{seen_below, repeat_at, repeats_over}

module _ (f : ℕ → Located) where
  pub repeats_numbered : (n : ℕ) {i : ℕ} {l k : Lowest} → Walking (repeat_at f) l n i k → n ≤ i → Lowered l (repeats [] (numbered f 0 n)) k
  unfolding seen_below
  repeats_numbered n t h = lowered_as (repeats_over f n 0 [] (λ x. refl)) (walk_end t h)
