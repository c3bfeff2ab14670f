-- The labels that a process leaves out, sought by their numbers: the walk of its check, in which nothing is at fault.
use Rattle.std.specs.Prelude.{ℕ, ◌+◌, ◌-◌, ◌<◌, ◌≤◌, ◌≡◌, refl, List, ◌++◌, map}
use Rattle.std.specs.Prelude.{Some, None, Ok, Err}
use Rattle.std.specs.declared.ops.ControlFlow.{ControlFlow}
use Rattle.std.specs.declared.ops.ControlFlow.TheVariants.{Continue, Break}
use Rattle.std.proofs.Common.{sym, ◌∙◌, subst}
use Rattle.std.proofs.Math.Path.{ap}
use Rattle.std.proofs.Math.Logic.Iff
use Rattle.notation.specs.Reader.{name_in}
use Rattle.notation.specs.Refusals.{OrRefusal}
use Rattle.notation.specs.Token.{name_at}
use Rattle.notation.specs.Tree.{Name, plains}
use Rattle.notation.specs.declared.reading.TermNode.{TermNode}
use Rattle.calculus.specs.Checking.{check}
use Rattle.calculus.specs.Typing.{retyped}
use Rattle.calculus.specs.Verdict.{fine, verdict_of}
use Rattle.calculus.specs.Warnings.{Missing, left_out, on_typed, missing}
use Rattle.theory_derivations.specs.Fine.{refuted, then_law}
use Rattle.run_words.specs.declared.records.Held.{Held}
use Rattle.read_tables.specs.Access.{BranchOf}
use Rattle.read_tables.specs.Decode.{process_in}
use Rattle.read_tables.specs.Program.{program_in}
use Rattle.read_tables.specs.Roots.{BranchesIn, alternatives_in, branches_in}
use Rattle.read_tables.specs.declared.access.Labelled.{Labelled}
use Rattle.check_types.specs.Labels.{LeadsTo}
use Rattle.check_types.specs.LeftOut.{out_in}
use Rattle.check_types.specs.Sought.{Reached, there, past, Sought, SoughtOn, mapped, sought_map, sought_start, sought_first, sought_on, sought_end}
use Rattle.check_types.specs.declared.messages.Choosing.{Choosing}
use Rattle.check_contexts.specs.Branches.{left_whole, left_none, left_is}
use Rattle.check_contexts.specs.Held.{Retypes}
use Rattle.check_terms.specs.Findings.{lacked_in, lacked_found, lacked_none, BothFine, both_fine}
use Rattle.check_terms.specs.Next.{context_in}
use Rattle.check_terms.specs.Sends.{retyped_so}
use Rattle.check_processes.specs.Branches.{branches_verdict, missing_inside, choice_refused, choice_branches, choice_missing, CheckedTo, branches_begin, branch_unlabelled, branch_by, branch_fine}
use Rattle.check_processes.specs.Nodes.{NodeIn}
use Rattle.check_processes.specs.Offers.{Offers}
use Rattle.check_processes.specs.Turns.{half_found, rest_found, half_verdict, verdict_after, verdict_at, missing_at, half_missing, missing_after, TurnIn, Turned, Checking, check_begin, check_next, choice_is}
use Rattle.check_processes.specs.declared.missing.Unmet.{Unmet}
use Rattle.check_processes.specs.declared.turns.Part.{Part}
use Rattle.check_processes.specs.declared.turns.Rest.TheVariants.{On, Choice, Done}
use Rattle.check_processes.specs.declared.turns.Turn.{Turn}

-- the code's answer
abbrev pub missing_in : List ℕ → ControlFlow Unmet ℕ → Reached Missing
missing_in s (Break u) = there (record { channel = name_in s u.channel; label = name_at s (u.label + 1) })
missing_in s (Continue j) = past j

-- what a search breaks with is handed on by a `?`
pub sought_broken : (s : List ℕ) {l : List Missing} {k : ℕ} {u : Unmet} {x : ControlFlow Unmet ℕ} → x ≡ Break u → Sought l k (missing_in s (Break u)) → Sought l k (missing_in s x)
sought_broken s {l} {k} e a = subst (λ x. Sought l k (missing_in s x)) (sym e) a

-- ── from a turn on, as far as the loop over the terms has come, with k labels to pass over
pub record Seeking (s w : List ℕ) (t₀ : Turn) (k₀ : ℕ) (t : Turn) (k : ℕ) : Type 0 where
  pub checks : Checking s w t₀ t
  pub fine : verdict_after s w t₀ ≡ fine
  pub rest : SoughtOn (missing_after s w t₀) k₀ (missing_after s w t) k

pub seek_begin : {s w : List ℕ} {t : Turn} (k : ℕ) → TurnIn s w t → verdict_after s w t ≡ fine → Seeking s w t k t k
seek_begin {s} {w} {t} k a f = record { checks = check_begin a; fine = f; rest = sought_start (missing_after s w t) k }

module _ {s w : List ℕ} {t₀ t : Turn} {k₀ k : ℕ} (u : Seeking s w t₀ k₀ t k) where
  parts : BothFine (half_found s w t.half) (rest_found s w t.rest)
  parts = both_fine (half_found s w t.half) (rest_found s w t.rest) (u.checks.is ∙ u.fine)

  pub seek_half : half_verdict s w t.half ≡ fine
  seek_half = parts.first

  pub seek_found : (x : Unmet) → Sought (half_missing s w t.half) k (missing_in s (Break x)) → Sought (missing_after s w t₀) k₀ (missing_in s (Break x))
  seek_found x a = sought_first u.rest (half_missing s w t.half) (lacked_in (rest_found s w t.rest)) parts.lacked a refl

  -- the first half is passed over
  module _ {j : ℕ} (a : Sought (half_missing s w t.half) k (missing_in s (Continue j))) where
    on : {m : List Missing} → lacked_in (rest_found s w t.rest) ≡ m → SoughtOn (missing_after s w t₀) k₀ m j
    on e = subst (λ m. SoughtOn (missing_after s w t₀) k₀ m j) e (sought_on u.rest (half_missing s w t.half) (lacked_in (rest_found s w t.rest)) parts.lacked a refl)

    pub seek_next : {q : Part} → t.rest ≡ On q → {r : Turn} → Turned s w q.held q.pointer r → Seeking s w t₀ k₀ r j
    seek_next e v = record {
      checks = check_next u.checks (sym seek_half) e v;
      fine = u.fine;
      rest = on (ap (λ y. lacked_in (rest_found s w y)) e ∙ ap lacked_in (sym v.is));
    }

    pub seek_choice : {q : Part} {n : TermNode} → t.rest ≡ Choice q n → verdict_at s w q.held q.pointer ≡ fine → {r : Reached Missing} → Sought (missing_at s w q.held q.pointer) j r → Sought (missing_after s w t₀) k₀ r
    seek_choice {q} e f {r} b = (on (ap (λ y. lacked_in (rest_found s w y)) e ∙ lacked_found (missing_at s w q.held q.pointer) f)).so r b

    pub seek_done : {v : OrRefusal (Unit {0})} → t.rest ≡ Done v → Sought (missing_after s w t₀) k₀ (missing_in s (Continue j))
    seek_done {v} e = sought_end (on (ap (λ y. lacked_in (rest_found s w y)) e ∙ lacked_none (verdict_of v))) refl

  -- nothing is at fault in a choice that comes last
  pub seek_choice_fine : {q : Part} {n : TermNode} → t.rest ≡ Choice q n → verdict_at s w q.held q.pointer ≡ fine
  seek_choice_fine e = choice_is u.checks (sym seek_half) e ∙ u.fine

-- ── the branches of a choice
-- nothing is at fault in n branches before the place d, for the labels of m alternatives before the place e; `at` is the recv's offset
pub record BranchesFine (s w : List ℕ) (h : Held) (c e m d n : ℕ) : Type 0 where
  pub at : ℕ
  pub fine : branches_verdict s w h at c e m (branches_in s w d n) ≡ fine

-- as far as the loop over them has come
pub record Inside (s w : List ℕ) (h : Held) (c e m d n k₀ i k : ℕ) : Type 0 where
  pub whole : BranchesFine s w h c e m d n
  pub checks : CheckedTo s w h whole.at c e m d n i
  pub rest : SoughtOn (missing_inside s w h c e m (branches_in s w d n)) k₀ (missing_inside s w h c e m (branches_in s w (d - i) (n - i))) k

module _ {s w : List ℕ} {h : Held} {c e m d n : ℕ} where
  pub inside_begin : (k : ℕ) → BranchesIn s w d n → BranchesFine s w h c e m d n → Inside s w h c e m d n k 0 k
  inside_begin k b f = record {
    whole = f;
    checks = branches_begin b;
    rest = subst (λ B. SoughtOn (missing_inside s w h c e m (branches_in s w d n)) k (missing_inside s w h c e m B) k) (left_whole s w d n) (sought_start (missing_inside s w h c e m (branches_in s w d n)) k);
  }

  module _ {k₀ i k : ℕ} (t : Inside s w h c e m d n k₀ i k) where
    pub inside_end : n ≤ i → Sought (missing_inside s w h c e m (branches_in s w d n)) k₀ (missing_in s (Continue k))
    unfolding missing
    inside_end l = sought_end t.rest (ap (missing_inside s w h c e m) (left_none s w d l))

    module _ (l : i < n) {b : Labelled} (o : BranchOf w (d - i) b) where
      pub inside_unlabelled : LeadsTo s w b.at e m None → ⊥
      inside_unlabelled f = refuted (branch_unlabelled t.checks l o f ∙ t.whole.fine)

      module _ {j : ℕ} (f : LeadsTo s w b.at e m (Some j)) {x : Held} (u : Retypes s h c j x) where
        pub inside_fine : verdict_at s w x b.number ≡ fine
        inside_fine = ap (λ H. check (program_in s w) H (process_in s w b.number)) (sym (retyped_so s w h c j x u)) ∙ ((then_law Iff.rfl Iff.rfl).0 (branch_by t.checks l o (i + 1) refl f ∙ t.whole.fine)).0

        begins : (g : ℕ) → g ≡ i + 1 → missing_inside s w h c e m (branches_in s w (d - i) (n - i)) ≡ missing_at s w x b.number ++ missing_inside s w h c e m (branches_in s w (d - g) (n - g))
        unfolding missing
        begins g z =
            let rest = missing_inside s w h c e m (branches_in s w (d - g) (n - g)) in
            ap (missing_inside s w h c e m) (left_is t.checks.left l o g z)
            ∙ ap (λ y. on_typed y (λ A. missing (program_in s w) (retyped (name_at s c) A (context_in s w h)) (process_in s w b.number)) ++ rest) f.is
            ∙ ap (λ H. missing (program_in s w) H (process_in s w b.number) ++ rest) (retyped_so s w h c j x u)

        pub inside_found : (y : Unmet) → Sought (missing_at s w x b.number) k (missing_in s (Break y)) → Sought (missing_inside s w h c e m (branches_in s w d n)) k₀ (missing_in s (Break y))
        inside_found y a = sought_first t.rest (missing_at s w x b.number) (missing_inside s w h c e m (branches_in s w (d - (i + 1)) (n - (i + 1)))) (begins (i + 1) refl) a refl

        pub inside_on : {v : ℕ} → Sought (missing_at s w x b.number) k (missing_in s (Continue v)) → (g : ℕ) → g ≡ i + 1 → Inside s w h c e m d n k₀ g v
        inside_on a g z = record {
          whole = t.whole;
          checks = branch_fine t.checks l o f u (sym inside_fine) g z;
          rest = sought_on t.rest (missing_at s w x b.number) (missing_inside s w h c e m (branches_in s w (d - g) (n - g))) (begins g z) a refl;
        }

-- ── a choice: what it leaves out itself, then what those inside do
module _ {s w : List ℕ} {h : Held} {p : ℕ} {n : TermNode} (t : NodeIn s w p n) (z : n.kind ≡ 8) (f : verdict_at s w h p ≡ fine) where
  pub never_refused : {k : ℕ} → Offers s w h n (Err k) → ⊥
  never_refused o = refuted (choice_refused t z o ∙ f)

  module _ {x : Choosing} (o : Offers s w h n (Ok x)) where
    pub choice_inside : BranchesFine s w h n.first x.place x.count n.second n.third
    choice_inside = record { at = n.at; fine = choice_branches t z o ∙ f }

    as_missing : Name → Missing
    as_missing l = record { channel = name_in s n.first; label = l }

    own : (k : ℕ) (l : ControlFlow ℕ ℕ) → Sought (left_out (plains (alternatives_in s w x.place x.count)) (branches_in s w n.second n.third)) k (out_in s l)
        → Sought (map as_missing (left_out (plains (alternatives_in s w x.place x.count)) (branches_in s w n.second n.third))) k (mapped as_missing (out_in s l))
    own k l a = sought_map as_missing _ k (out_in s l) a

    pub choice_own : {k : ℕ} (y : ℕ) → Sought (left_out (plains (alternatives_in s w x.place x.count)) (branches_in s w n.second n.third)) k (out_in s (Break y)) → Sought (missing_at s w h p) k (missing_in s (Break (record { channel = n.first; label = y })))
    unfolding as_missing
    choice_own {k} y a = sought_first (sought_start (missing_at s w h p) k) _ _ (choice_missing t z o f) (own k (Break y) a) refl

    pub choice_on : {k j : ℕ} → Sought (left_out (plains (alternatives_in s w x.place x.count)) (branches_in s w n.second n.third)) k (out_in s (Continue j)) → {y : Reached Missing}
        → Sought (missing_inside s w h n.first x.place x.count (branches_in s w n.second n.third)) j y → Sought (missing_at s w h p) k y
    unfolding as_missing
    choice_on {k} {j} a {y} b = (sought_on (sought_start (missing_at s w h p) k) _ _ (choice_missing t z o f) (own k (Continue j) a) refl).so y b
