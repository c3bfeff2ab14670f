-- The check of branches, as far as the loop over them has come.
use Rattle.std.specs.Prelude.{ℕ, ◌+◌, ◌-◌, ◌<◌, ◌≤◌, ◌≡◌, refl, List, ◌++◌}
use Rattle.std.specs.Prelude.{Option, Some, None, Result, Ok, Err, IsErrAnd}
use Rattle.std.proofs.Math.Path.{sym, ap}
use Rattle.std.proofs.Common.{◌∙◌}
use Rattle.std.proofs.Math.Option.{map}
use Rattle.notation.specs.Reader.{name_in}
use Rattle.notation.specs.Token.{name_at}
use Rattle.notation.specs.Tree.{plains, Branches}
use Rattle.notation.specs.declared.reading.TermNode.{TermNode}
use Rattle.calculus.specs.Checking.{check, check_branches}
use Rattle.calculus.specs.Typing.{retyped}
use Rattle.calculus.specs.Verdict.{fine, refused, and_then, having, verdict_of}
use Rattle.calculus.specs.Verdict as calculus
use Rattle.notation.specs.Refusals.{OrRefusal}
use Rattle.notation.specs.declared.refusal.Refusal.{Refusal}
use Rattle.calculus.specs.Warnings.{Missing, left_out, missing_on, branches_missing}
use Rattle.run_words.specs.declared.records.Held.{Held}
use Rattle.read_tables.specs.Access.{BranchOf}
use Rattle.read_tables.specs.Decode.{process_in}
use Rattle.read_tables.specs.Program.{plain_in, program_in}
use Rattle.read_tables.specs.Roots.{BranchesIn, alternatives_in, branches_in}
use Rattle.read_tables.specs.Search.{place_of}
use Rattle.read_tables.specs.declared.access.Labelled.{Labelled}
use Rattle.check_types.specs.Labels.{LeadsTo}
use Rattle.check_types.specs.declared.messages.Choosing.{Choosing}
use Rattle.check_contexts.specs.Branches.{Left, left_begin, left_whole, left_none, left_is, left_next}
use Rattle.check_contexts.specs.Held.{Retypes}
use Rattle.check_terms.specs.Findings.{verdict_in, lacked_in, verdict_found, lacked_found}
use Rattle.check_terms.specs.Next.{context_in}
use Rattle.check_terms.specs.Sends.{retyped_so}
use Rattle.check_processes.specs.Process.{then_refused, then_fine}
use Rattle.check_processes.specs.Nodes.{NodeIn, choose_at}
use Rattle.check_processes.specs.Offers.{choosing_with, branches_found, offer_of, Offers}
use Rattle.check_processes.specs.Turns.{found_at, verdict_at, missing_at}

-- the verdict of branches, for the labels of m alternatives before the place e
abbrev pub branches_verdict : List ℕ → List ℕ → Held → ℕ → ℕ → ℕ → ℕ → Branches → calculus.Verdict
branches_verdict s w h at c e m B = check_branches (program_in s w) (context_in s w h) at (name_at s c) (plains (alternatives_in s w e m)) B

-- what those inside leave out
abbrev pub missing_inside : List ℕ → List ℕ → Held → ℕ → ℕ → ℕ → Branches → List Missing
missing_inside s w h c e m B = branches_missing (program_in s w) (context_in s w h) (name_at s c) (plains (alternatives_in s w e m)) B

-- ── a choice, by the labels that its branches fit
module _ {s w : List ℕ} {h : Held} {p : ℕ} {n : TermNode} (t : NodeIn s w p n) (z : n.kind ≡ 8) where
  choice_found : {r : Result Choosing ℕ} → Offers s w h n r
      → choosing_with n.at (offer_of s w r) (branches_found (program_in s w) (context_in s w h) n.at (name_in s n.first) (branches_in s w n.second n.third)) ≡ found_at s w h p
  choice_found o =
      sym ((choose_at s w p n t z).2 (context_in s w h)
      ∙ ap (λ x. choosing_with n.at x (branches_found (program_in s w) (context_in s w h) n.at (name_in s n.first) (branches_in s w n.second n.third))) (sym o.is))

  pub choice_refused : {k : ℕ} → Offers s w h n (Err k) → refused k n.at ≡ verdict_at s w h p
  choice_refused o = ap verdict_in (choice_found o) ∙ verdict_found (verdict_at s w h p) (missing_at s w h p)

  module _ {x : Choosing} (o : Offers s w h n (Ok x)) where
    pub choice_branches : branches_verdict s w h n.at n.first x.place x.count (branches_in s w n.second n.third) ≡ verdict_at s w h p
    choice_branches =
        sym (verdict_found (branches_verdict s w h n.at n.first x.place x.count (branches_in s w n.second n.third)) _)
        ∙ ap verdict_in (choice_found o)
        ∙ verdict_found (verdict_at s w h p) (missing_at s w h p)

    -- what the recv leaves out itself, then what those inside do
    pub choice_missing : verdict_at s w h p ≡ fine → missing_at s w h p
        ≡ missing_on (name_in s n.first) (left_out (plains (alternatives_in s w x.place x.count)) (branches_in s w n.second n.third)) ++ missing_inside s w h n.first x.place x.count (branches_in s w n.second n.third)
    choice_missing f =
        sym (lacked_found (missing_at s w h p) f)
        ∙ ap lacked_in (sym (choice_found o))
        ∙ lacked_found _ (choice_branches ∙ f)

-- ── the loop over the branches
-- nothing is at fault in the first i of k branches before the place d: the others decide
pub record CheckedTo (s w : List ℕ) (h : Held) (at c e m d k i : ℕ) : Type 0 where
  pub left : Left s w d k i
  pub is : branches_verdict s w h at c e m (branches_in s w (d - i) (k - i)) ≡ branches_verdict s w h at c e m (branches_in s w d k)

module _ {s w : List ℕ} {h : Held} {at c e m d k : ℕ} where
  pub branches_begin : BranchesIn s w d k → CheckedTo s w h at c e m d k 0
  branches_begin a = record { left = left_begin a; is = ap (branches_verdict s w h at c e m) (sym (left_whole s w d k)) }

  module _ {i : ℕ} (t : CheckedTo s w h at c e m d k i) where
    pub branches_fine : k ≤ i → fine ≡ branches_verdict s w h at c e m (branches_in s w d k)
    unfolding check
    branches_fine l = ap (branches_verdict s w h at c e m) (sym (left_none s w d l)) ∙ t.is

    module _ (l : i < k) {b : Labelled} (o : BranchOf w (d - i) b) where
      -- by what the branch's label leads to
      pub branch_by : (j : ℕ) → j ≡ i + 1 → {r : Option ℕ} → LeadsTo s w b.at e m r
          → having 12 at (map (plain_in s w) (place_of r)) (λ A. and_then (check (program_in s w) (retyped (name_at s c) A (context_in s w h)) (process_in s w b.number)) (branches_verdict s w h at c e m (branches_in s w (d - j) (k - j))))
          ≡ branches_verdict s w h at c e m (branches_in s w d k)
      unfolding check
      branch_by j z f =
          sym (sym t.is
          ∙ ap (branches_verdict s w h at c e m) (left_is t.left l o j z)
          ∙ ap (λ y. having 12 at y (λ A. and_then (check (program_in s w) (retyped (name_at s c) A (context_in s w h)) (process_in s w b.number)) (branches_verdict s w h at c e m (branches_in s w (d - j) (k - j))))) f.is)

      pub branch_unlabelled : LeadsTo s w b.at e m None → refused 12 at ≡ branches_verdict s w h at c e m (branches_in s w d k)
      branch_unlabelled f = branch_by (i + 1) refl f

      module _ {n : ℕ} (f : LeadsTo s w b.at e m (Some n)) {x : Held} (u : Retypes s h c n x) where
        branch_is : verdict_at s w x b.number ≡ check (program_in s w) (retyped (name_at s c) (plain_in s w n) (context_in s w h)) (process_in s w b.number)
        branch_is = ap (λ H. check (program_in s w) H (process_in s w b.number)) (sym (retyped_so s w h c n x u))

        pub branch_refused : {y : Refusal} (v : OrRefusal (Unit {0})) → IsErrAnd v (λ d'. d' ≡ y) → verdict_of (Err y) ≡ verdict_at s w x b.number → verdict_of v ≡ branches_verdict s w h at c e m (branches_in s w d k)
        branch_refused v r q = then_refused _ v r (q ∙ branch_is) ∙ branch_by (i + 1) refl f

        pub branch_fine : fine ≡ verdict_at s w x b.number → (j : ℕ) → j ≡ i + 1 → CheckedTo s w h at c e m d k j
        branch_fine q j z = record { left = left_next t.left l o j z; is = then_fine _ (q ∙ branch_is) ∙ branch_by j z f }
