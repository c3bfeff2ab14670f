-- Branches against alternatives: the label of each is one of the type's.
use Rattle.std.specs.Prelude.{ℕ, ◌-◌, ◌≤◌, ◌≡◌, refl, List, Bool, true, false, ◌&&◌}
use Rattle.std.specs.Prelude.{Option, Some, None, is_some}
use Rattle.std.proofs.Math.Path.{sym, ap}
use Rattle.std.proofs.Common.{◌∙◌}
use Rattle.std.proofs.Math.Option.{map}
use Rattle.notation.specs.Tree.{plains}
use Rattle.notation.specs.Tables.{Area, branch_room}
use Rattle.calculus.specs.Named as named
use Rattle.calculus.specs.Checking.{fitting}
use Rattle.read_tables.specs.declared.access.Labelled.{Labelled}
use Rattle.read_tables.specs.Access.{BranchOf}
use Rattle.read_tables.specs.Program.{plain_in}
use Rattle.read_tables.specs.Roots.{alternatives_in, BranchesIn, branches_in}
use Rattle.read_tables.specs.Search.{place_of}
use Rattle.read_tables.specs.Whole.{Tables}
use Rattle.check_types.specs.Alternatives.{BeginsBranch, first_branch_there, first_branch_in}
use Rattle.check_types.specs.Labels.{LeadsTo}

-- a label of the type was found
found : (s w : List ℕ) (r : Option ℕ) → named.is_some (map (plain_in s w) (place_of r)) ≡ is_some r
found s w (Some j) = refl
found s w None = refl

-- a test that has come to m branches before the place d
module _ (s w : List ℕ) (e n d₀ m₀ : ℕ) where
  abbrev fits : ℕ → ℕ → Bool
  fits d m = fitting (plains (alternatives_in s w e n)) (branches_in s w d m)

  pub record Fitting (d m : ℕ) : Type 0 where
    pub there : BranchesIn s w d m
    pub rest : fits d₀ m₀ ≡ fits d m

  pub fit_start : BranchesIn s w d₀ m₀ → Fitting d₀ m₀
  fit_start b = record { there = b; rest = refl }

  module _ (d m : ℕ) (f : Fitting d m) (h : m ≡ 0 → ⊥) where
    pub fit_there : Tables s w → Area w × (1 ≤ d) × (d ≤ branch_room)
    fit_there = first_branch_there s w d m f.there h

    -- what the first label that is left leads to
    module _ (b : Labelled) (o : BranchOf w d b) {r : Option ℕ} (t : LeadsTo s w b.at e n r) where
      first : BeginsBranch s w d m b
      first = first_branch_in s w d m f.there h b o

      tested : (q : Bool) → is_some r ≡ q → fits d₀ m₀ ≡ (q && fits (d - 1) (m - 1))
      unfolding fitting
      tested q y =
          f.rest
          ∙ ap (fitting (plains (alternatives_in s w e n))) first.is
          ∙ ap (λ b. b && fits (d - 1) (m - 1)) (ap named.is_some t.is ∙ found s w r ∙ y)

      pub fit_not : is_some r ≡ false → false ≡ fits d₀ m₀
      fit_not y = sym (tested false y)

      pub fit_on : is_some r ≡ true → Fitting (d - 1) (m - 1)
      fit_on y = record { there = first.rest; rest = tested true y }

  pub fit_end : (d m : ℕ) → Fitting d m → m ≡ 0 → true ≡ fits d₀ m₀
  unfolding fitting
  fit_end d m f z = sym (f.rest ∙ ap (fits d) z)
