-- A label found in a list of branches.
use Rattle.std.specs.Prelude.{ℕ, zero, suc, ◌+◌, ◌-◌, ◌≤◌, ◌≡◌, refl, List, Bool, true, false, cond}
use Rattle.std.specs.Prelude.{Option as CodeOption, Some, None}
use Rattle.std.proofs.Common.{subst, arith}
use Rattle.std.proofs.Math.Option.{some, map}
use Rattle.notation.specs.Bytes.{same}
use Rattle.notation.specs.Token.{name_at}
use Rattle.notation.specs.Tree.{Name}
use Rattle.calculus.specs.Steps.{branch_of}
use Rattle.read_tables.specs.Decode.{branch_at, process_in}
use Rattle.read_tables.specs.Roots.{BranchesIn, ProcessIn, branches_in, first_branch}
use Rattle.read_tables.specs.Search.{place_of}
use Rattle.check_types.specs.Labels.{first_labelled}

-- the label at `at`, among the n branches before the place e: its process is at r
pub record BranchIs (s w : List ℕ) (at e n : ℕ) (r : CodeOption ℕ) : Type 0 where
  pub is : branch_of (name_at s (at + 1)) (branches_in s w e n) ≡ map (λ x. process_in s w x) (place_of r)
  pub process : (x : ℕ) → r ≡ Some x → ProcessIn s w x

-- where r leads, a process stands
abbrev process_there : List ℕ → List ℕ → CodeOption ℕ → Type 0
process_there s w (Some x) = ProcessIn s w x
process_there s w None = Unit

module _ (s w : List ℕ) where
  pub branches_below : (e n : ℕ) → BranchesIn s w e n → n ≤ e
  branches_below e zero a = omega arith
  branches_below e (suc n) a = let f = first_branch s w e n a in omega (arith, f.past, branches_below (e - 1) n f.rest)

  module _ (at : ℕ) where
    abbrev name : Name
    name = name_at s (at + 1)

    -- the first of them: found, or passed over
    module _ (e n i : ℕ) (t : ProcessIn s w i) {r : CodeOption ℕ} (l : BranchIs s w at (e - 1) n r) where
      leads_first : (b : Bool) → (cond b (some (process_in s w i)) (branch_of name (branches_in s w (e - 1) n)) ≡ map (λ x. process_in s w x) (place_of (cond b (Some i) r))) × ((x : ℕ) → cond b (Some i) r ≡ Some x → ProcessIn s w x)
      leads_first true = (refl, λ x q. subst (process_there s w) q t)
      leads_first false = (l.is, l.process)

    pub branch_leads : (e n : ℕ) → BranchesIn s w e n → BranchIs s w at e n (first_labelled s (branch_at w) name e n)
    unfolding first_labelled
    branch_leads e zero b = record { is = refl; process = λ x q. subst (process_there s w) q tt }
    branch_leads e (suc n) b =
        let p = branch_at w (e - 1) in
        let f = first_branch s w e n b in
        let l = leads_first e n p.1 f.process (branch_leads (e - 1) n f.rest) (same name (name_at s (p.0 + 1))) in
        record { is = l.0; process = l.1 }
