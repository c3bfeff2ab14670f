-- The first of a list of alternatives or of branches that is not empty: the alternative as it is compared.
use Rattle.std.specs.Prelude.{ℕ, suc, ◌+◌, ◌-◌, ◌≤◌, ◌≡◌, List}
use Rattle.std.proofs.Common.{◌∙◌, subst, arith}
use Rattle.std.proofs.Math.Path.{ap}
use Rattle.notation.specs.Token.{name_at}
use Rattle.notation.specs.Reader.{label_in}
use Rattle.notation.specs.Tree.{alternative, plains, branch}
use Rattle.notation.specs.Tables.{Area, branch_room}
use Rattle.notation.specs.Limits.{type_term_limit}
use Rattle.read_tables.specs.declared.access.Labelled.{Labelled}
use Rattle.read_tables.specs.Access.{AlternativeOf, alternative_there, BranchOf, branch_there}
use Rattle.read_tables.specs.Decode.{process_in}
use Rattle.read_tables.specs.Program.{plain_in}
use Rattle.read_tables.specs.Roots.{TypeIn, AlternativesIn, alternatives_in, FirstAlternative, ProcessIn, BranchesIn, branches_in, FirstBranch}
use Rattle.read_tables.specs.Whole.{Tables}

-- n alternatives before the place e begin with r
pub record Begins (s w : List ℕ) (e n : ℕ) (r : Labelled) : Type 0 where
  pub type : TypeIn s w r.number
  pub rest : AlternativesIn s w (e - 1) (n - 1)
  pub is : plains (alternatives_in s w e n) ≡ alternative (name_at s (r.at + 1)) (plain_in s w r.number) (plains (alternatives_in s w (e - 1) (n - 1)))

module _ (s w : List ℕ) (e n : ℕ) (a : AlternativesIn s w e n) (h : n ≡ 0 → ⊥) where
  more : n ≡ suc (n - 1)
  more = omega arith

  there : AlternativesIn s w e (suc (n - 1))
  there = subst (AlternativesIn s w e) more a

  -- its entry can be taken
  pub first_there : Tables s w → Area w × (1 ≤ e) × (e ≤ type_term_limit)
  first_there t = let (l, k) = alternative_there s w t e (n - 1) there in (t.area, l, k)

  pub first_in : (r : Labelled) → AlternativeOf w e r → Begins s w e n r
  unfolding plains
  first_in r o =
      let f : FirstAlternative s w e (n - 1) r.at r.number = o.says s (n - 1) there in
      record { type = f.type; rest = f.rest; is = ap (λ k. plains (alternatives_in s w e k)) more ∙ ap plains f.is }

-- m branches before the place d begin with r
pub record BeginsBranch (s w : List ℕ) (d m : ℕ) (r : Labelled) : Type 0 where
  pub process : ProcessIn s w r.number
  pub rest : BranchesIn s w (d - 1) (m - 1)
  pub is : branches_in s w d m ≡ branch (label_in s r.at) (process_in s w r.number) (branches_in s w (d - 1) (m - 1))

module _ (s w : List ℕ) (d m : ℕ) (b : BranchesIn s w d m) (h : m ≡ 0 → ⊥) where
  more_branches_lem : m ≡ suc (m - 1)
  more_branches_lem = omega arith

  branches_there_lem : BranchesIn s w d (suc (m - 1))
  branches_there_lem = subst (BranchesIn s w d) more_branches_lem b

  -- its entry can be taken
  pub first_branch_there : Tables s w → Area w × (1 ≤ d) × (d ≤ branch_room)
  first_branch_there t = let (l, k) = branch_there s w t d (m - 1) branches_there_lem in (t.area, l, k)

  pub first_branch_in : (r : Labelled) → BranchOf w d r → BeginsBranch s w d m r
  first_branch_in r o =
      let f : FirstBranch s w d (m - 1) r.at r.number = o.says s (m - 1) branches_there_lem in
      record { process = f.process; rest = f.rest; is = ap (branches_in s w d) more_branches_lem ∙ f.is }

-- ── a walk by numbers: of n places before the place e, those from the number k on are left
module _ (P : ℕ → ℕ → Type 0) (e n : ℕ) where
  left_at : {d m : ℕ} (c l : ℕ) → d ≡ c → m ≡ l → P d m → P c l
  left_at {d} c l x y p = subst (λ i. P i l) x (subst (P d) y p)

  pub all_left : P e n → P (e - 0) (n - 0)
  all_left = left_at (e - 0) (n - 0) (omega arith) (omega arith)

  pub one_less : (k : ℕ) → P (e - k - 1) (n - k - 1) → P (e - (k + 1)) (n - (k + 1))
  one_less k = left_at (e - (k + 1)) (n - (k + 1)) (omega arith) (omega arith)
