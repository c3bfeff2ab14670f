-- A walk over the branches of a list by their positions: those from k on are left.
use Rattle.std.specs.Prelude.{ℕ, suc, ◌+◌, ◌-◌, ◌≤◌, ◌<◌, ◌≡◌, refl, List}
use Rattle.std.proofs.Common.{◌∙◌}
use Rattle.std.proofs.Math.Path.{ap, subst}
use native.Mathlib.Omega.{arith}
use Rattle.notation.specs.Reader.{label_in}
use Rattle.notation.specs.Sizes.{process_terms, branches_terms}
use Rattle.notation.specs.Tables.{branch_room}
use Rattle.notation.specs.Tree.{Branches, branch}
use Rattle.read_tables.specs.Access.{BranchOf, branch_there}
use Rattle.read_tables.specs.Decode.{process_in}
use Rattle.read_tables.specs.Roots.{BranchesIn, branches_in, FirstBranch}
use Rattle.read_tables.specs.Whole.{Tables}
use Rattle.read_tables.specs.declared.access.Labelled.{Labelled}

pub record Left (s w : List ℕ) (e count k : ℕ) : Type 0 where
  pub upto : k ≤ count
  pub stands : BranchesIn s w (e - k) (count - k)
  pub fewer : branches_terms (branches_in s w (e - k) (count - k)) ≤ branches_terms (branches_in s w e count)

-- at first all are left, in the end none
pub left_whole : (s w : List ℕ) (e count : ℕ) → branches_in s w e count ≡ branches_in s w (e - 0) (count - 0)
left_whole s w e count =
    let x : e ≡ e - 0 = omega arith in
    let y : count ≡ count - 0 = omega arith in
    λ j. branches_in s w (x j) (y j)

pub left_none : (s w : List ℕ) (e : ℕ) {count k : ℕ} → count ≤ k → branches_in s w (e - k) (count - k) ≡ Branches.none
left_none s w e {count} {k} l = ap (branches_in s w (e - k)) {x = count - k} {y = 0} (omega arith)

pub left_begin : {s w : List ℕ} {e count : ℕ} → BranchesIn s w e count → Left s w e count 0
left_begin {s} {w} {e} {count} a =
    let x : e ≡ e - 0 = omega arith in
    let y : count ≡ count - 0 = omega arith in
    record {
      upto = omega arith;
      stands = subst (λ d. BranchesIn s w d (count - 0)) x (subst (BranchesIn s w e) y a);
      fewer = omega (arith, ap branches_terms (left_whole s w e count));
    }

module _ {s w : List ℕ} {e count k : ℕ} (t : Left s w e count k) (l : k < count) where
  some_left : BranchesIn s w (e - k) (suc (count - k - 1))
  some_left = subst (BranchesIn s w (e - k)) {x = count - k} {y = suc (count - k - 1)} (omega arith) t.stands

  pub left_here : Tables s w → (1 ≤ e - k) × (e - k ≤ branch_room)
  left_here u = branch_there s w u (e - k) (count - k - 1) some_left

  module _ {b : Labelled} (o : BranchOf w (e - k) b) where
    pub left_first : FirstBranch s w (e - k) (count - k - 1) b.at b.number
    left_first = o.says s (count - k - 1) some_left

    -- the one at k, then the others
    pub left_is : (i : ℕ) → i ≡ k + 1 → branches_in s w (e - k) (count - k) ≡ branch (label_in s b.at) (process_in s w b.number) (branches_in s w (e - i) (count - i))
    left_is i z =
        let u : count - k ≡ suc (count - k - 1) = omega arith in
        let x : e - k - 1 ≡ e - i = omega arith in
        let y : count - k - 1 ≡ count - i = omega arith in
        ap (branches_in s w (e - k)) u ∙ left_first.is ∙ λ j. branch (label_in s b.at) (process_in s w b.number) (branches_in s w (x j) (y j))

    pub left_terms : process_terms (process_in s w b.number) ≤ branches_terms (branches_in s w e count)
    unfolding process_terms
    left_terms = let q = ap branches_terms (left_is (k + 1) refl) in omega (arith, q, t.fewer)

    pub left_next : (i : ℕ) → i ≡ k + 1 → Left s w e count i
    unfolding process_terms
    left_next i z =
        let x : e - k - 1 ≡ e - i = omega arith in
        let y : count - k - 1 ≡ count - i = omega arith in
        let q = ap branches_terms (left_is i z) in
        record {
          upto = omega arith;
          stands = subst (λ d. BranchesIn s w d (count - i)) x (subst (BranchesIn s w (e - k - 1)) y left_first.rest);
          fewer = omega (arith, q, t.fewer);
        }
