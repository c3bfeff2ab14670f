-- Types of the outside's channels: they reach only 1, * and +.
use Rattle.std.specs.Prelude.{ℕ, ◌≡◌, List, Bool, not}
use Rattle.std.proofs.Common.{sym, ◌∙◌, ap}
use Rattle.calculus.specs.Declarations.{has_other, outward}
use Rattle.read_tables.specs.Program.{plain_in, program_in}
use Rattle.run_words.specs.Raw.{RawOutside}
use Rattle.check_declarations.specs.Reach.{marked, Reaches}

abbrev pub outward_in : List ℕ → List ℕ → RawOutside → Bool
outward_in s w o = outward (program_in s w) (plain_in s w o.node)

-- by the marks of the types that reach another
pub outward_so : (s w : List ℕ) (o : RawOutside) {m : List Bool} {i : ℕ} {r b : Bool} → Reaches s w m → i ≡ o.node → r ≡ has_other (marked s w m) (plain_in s w i) → r ≡ b → outward_in s w o ≡ not b
unfolding outward
outward_so s w o t e q p = ap not ((λ i. has_other (sym t.is i) (plain_in s w (sym e i))) ∙ sym q ∙ p)
