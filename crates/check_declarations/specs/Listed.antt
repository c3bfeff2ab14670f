-- Lists that stand in the tables, by number.
use Rattle.std.specs.Prelude.{ℕ, zero, suc, ◌+◌, ◌-◌, ◌<◌, ◌≤◌, ◌≡◌, refl}
use Rattle.std.proofs.Math.Path.{sym}
use Rattle.std.proofs.Common.{◌∙◌, ap, subst, arith, add-one}
use mathlib.Core.List.{List, [], ◌∷◌}
use Rattle.calculus.specs.Declarations.{choice_labels, branch_labels, channels}
use Rattle.read_tables.specs.declared.access.Labelled.{Labelled}
use Rattle.read_tables.specs.Access.{AlternativeOf, BranchOf, EntryOf}
use Rattle.read_tables.specs.Decode.{tally_in, numbered, type_in, process_in, alternative_at, branch_at, entry_at, entries_in}
use Rattle.read_tables.specs.Roots.{TypeIn, AlternativesIn, alternatives_in, first_alternative, alternative_terms}
use Rattle.read_tables.specs.Roots.{ProcessIn, BranchesIn, branches_in, first_branch, branch_terms}
use Rattle.read_tables.specs.Whole.{EntriesIn, FirstEntry, first_entry, Tables}
use Rattle.notation.specs.Reader.{name_in, label_in}
use Rattle.notation.specs.Sizes.{type_terms, alternatives_terms, process_terms, branches_terms}
use Rattle.notation.specs.Tables.{branch_room}
use Rattle.notation.specs.Limits.{type_term_limit}

-- what f says of n numbers from i on, joined
abbrev pub fold : {A B : Type 0} → (A → B → B) → B → (ℕ → A) → ℕ → ℕ → B
fold op z f i zero = z
fold op z f i (suc n) = op (f i) (fold op z f (i + 1) n)

-- the places of a list: the next one, and the one k steps on
pub record Steps : Type 0 where
  pub next : ℕ → ℕ
  pub place : ℕ → ℕ → ℕ
  pub first : (x : ℕ) → place x 0 ≡ x
  pub later : (x k : ℕ) → place (next x) k ≡ place x (k + 1)

abbrev pub up : Steps
up = record { next = λ x. x + 1; place = λ x k. x + k; first = λ x. omega arith; later = λ x k. omega arith }

abbrev pub down : Steps
down = record { next = λ x. x - 1; place = λ x k. x - k; first = λ x. omega arith; later = λ x k. omega arith }

module _ (d : Steps) where
  -- what stands from a place on stands from its element k on
  pub stands_on : (Q : ℕ → ℕ → Type 0) → ((x n : ℕ) → Q x (suc n) → Q (d.next x) n) → (k x n : ℕ) → k < n → Q x n → Q (d.place x k) (suc (n - (k + 1)))
  stands_on Q rest zero x n h q =
      let e : n ≡ suc (n - 1) = omega arith in
      subst (λ y. Q y (suc (n - 1))) (sym (d.first x)) (subst (Q x) e q)
  stands_on Q rest (suc k) x n h q =
      let e : n ≡ suc (n - 1) = omega arith in
      let o : n - 1 - (k + 1) ≡ n - (suc k + 1) = omega arith in
      subst (λ y. Q y (suc (n - (suc k + 1)))) (d.later x k ∙ ap (d.place x) (add-one k))
      (subst (λ y. Q (d.place (d.next x) k) (suc y)) o (stands_on Q rest k (d.next x) (n - 1) (omega arith) (rest x (n - 1) (subst (Q x) e q))))

  module _ {A B : Type 0} (op : A → B → B) (z : B) where
    shifted : (f : ℕ → A) (i n : ℕ) → fold op z (λ k. f (k + 1)) i n ≡ fold op z f (i + 1) n
    shifted f i zero = refl
    shifted f i (suc n) = ap (op (f (i + 1))) (shifted f (i + 1) n)

    -- what is made of the place x and then of the rest
    pub by_steps : (g : ℕ → A) (made : ℕ → ℕ → B) → ((x : ℕ) → made x 0 ≡ z) → ((x n : ℕ) → made x (suc n) ≡ op (g x) (made (d.next x) n)) → (n x : ℕ) → made x n ≡ fold op z (λ k. g (d.place x k)) 0 n
    by_steps g made none more zero x = none x
    by_steps g made none more (suc n) x =
        more x n
        ∙ ap (op (g x)) (by_steps g made none more n (d.next x))
        ∙ ap (λ (f : ℕ → A). op (g x) (fold op z f 0 n)) (λ j k. g (d.later x k j))
        ∙ ap (op (g x)) (shifted (λ k. g (d.place x k)) 0 n)
        ∙ ap (λ y. op (g y) (fold op z (λ k. g (d.place x k)) 1 n)) (sym (d.first x))

numbered_fold : {A : Type 0} (f : ℕ → A) (n i : ℕ) → fold ◌∷◌ [] f i n ≡ numbered f i n
numbered_fold f zero i = refl
numbered_fold f (suc n) i = ap (◌∷◌ (f i)) (numbered_fold f n (i + 1))

module _ (s w : List ℕ) where
  -- ── the element k of a list stands
  pub alternative_on : (k e n : ℕ) → k < n → AlternativesIn s w e n → AlternativesIn s w (e - k) (suc (n - (k + 1)))
  alternative_on = stands_on down (AlternativesIn s w) (λ x n a. (first_alternative s w x n a).rest)

  pub branch_on : (k e n : ℕ) → k < n → BranchesIn s w e n → BranchesIn s w (e - k) (suc (n - (k + 1)))
  branch_on = stands_on down (BranchesIn s w) (λ x n a. (first_branch s w x n a).rest)

  pub entry_on : (k i n : ℕ) → k < n → EntriesIn s w i n → EntriesIn s w (i + k) (suc (n - (k + 1)))
  entry_on = stands_on up (EntriesIn s w) (λ x n a. (first_entry s w x n a).rest)

  -- ── the names of a list
  pub choice_labels_lem : (e n : ℕ) → numbered (λ k. label_in s (alternative_at w (e - k - 1)).0) 0 n ≡ choice_labels (alternatives_in s w e n)
  choice_labels_lem e n =
      sym (by_steps down ◌∷◌ [] (λ x. label_in s (alternative_at w (x - 1)).0) (λ x m. choice_labels (alternatives_in s w x m)) (λ x. refl) (λ x m. refl) n e ∙ numbered_fold _ n 0)

  pub branch_labels_lem : (e n : ℕ) → numbered (λ k. label_in s (branch_at w (e - k - 1)).0) 0 n ≡ branch_labels (branches_in s w e n)
  branch_labels_lem e n =
      sym (by_steps down ◌∷◌ [] (λ x. label_in s (branch_at w (x - 1)).0) (λ x m. branch_labels (branches_in s w x m)) (λ x. refl) (λ x m. refl) n e ∙ numbered_fold _ n 0)

  pub entry_names : (i n : ℕ) → numbered (λ k. name_in s (entry_at w (i + k)).0) 0 n ≡ channels (entries_in s w i n)
  unfolding entries_in
  entry_names i n =
      sym (by_steps up ◌∷◌ [] (λ x. name_in s (entry_at w x).0) (λ x m. channels (entries_in s w x m)) (λ x. refl) (λ x m. refl) n i ∙ numbered_fold _ n 0)

  -- ── the places of a list are in the tables
  alternatives_past : (n e : ℕ) → AlternativesIn s w e n → n ≤ e
  alternatives_past zero e a = omega arith
  alternatives_past (suc n) e a = let f = first_alternative s w e n a in omega (arith, f.past, alternatives_past n (e - 1) f.rest)

  branches_past : (n e : ℕ) → BranchesIn s w e n → n ≤ e
  branches_past zero e a = omega arith
  branches_past (suc n) e a = let f = first_branch s w e n a in omega (arith, f.past, branches_past n (e - 1) f.rest)

  entries_past : (n i : ℕ) → 0 < n → EntriesIn s w i n → i + n ≤ (tally_in w).entries
  entries_past zero i h a = absurd (omega arith)
  entries_past (suc zero) i h a = let b = (first_entry s w i 0 a).within in omega arith
  entries_past (suc (suc n)) i h a = omega (arith, entries_past (suc n) (i + 1) (omega arith) (first_entry s w i (suc n) a).rest)

  module _ (t : Tables s w) where
    module _ (e n : ℕ) (a : AlternativesIn s w e n) where
      pub alternatives_fit : (n ≤ e) × (e ≤ type_term_limit)
      alternatives_fit = let b = t.within in let c = a.within in (alternatives_past n e a, omega arith)

      -- the type of the element k stands, and has no more terms than the list
      pub alternative_part : (k : ℕ) → k < n → {r : Labelled} → AlternativeOf w (e - k) r
          → (type_terms (type_in s w r.number) ≤ alternatives_terms (alternatives_in s w e n)) × TypeIn s w r.number
      alternative_part k h o =
          let same = ap (λ x. type_terms (type_in s w x)) o.holds.number in
          (omega (arith, same, alternative_terms s w e n k h), (o.says s (n - (k + 1)) (alternative_on k e n h a)).type)

    module _ (e n : ℕ) (a : BranchesIn s w e n) where
      pub branches_fit : (n ≤ e) × (e ≤ branch_room)
      branches_fit = let b = t.within in let c = a.within in (branches_past n e a, omega arith)

      pub branch_part : (k : ℕ) → k < n → {r : Labelled} → BranchOf w (e - k) r
          → (process_terms (process_in s w r.number) ≤ branches_terms (branches_in s w e n)) × ProcessIn s w r.number
      branch_part k h o =
          let same = ap (λ x. process_terms (process_in s w x)) o.holds.number in
          (omega (arith, same, branch_terms s w e n k h), (o.says s (n - (k + 1)) (branch_on k e n h a)).process)

    module _ (i n : ℕ) (a : EntriesIn s w i n) where
      pub entries_fit : 0 < n → i + n ≤ type_term_limit
      entries_fit h = let b = t.within in omega (arith, entries_past n i h a)

      pub entry_first : (k : ℕ) → k < n → {r : Labelled} → EntryOf w (i + k) r → FirstEntry s w (i + k) (n - (k + 1)) r.at r.number
      entry_first k h o = o.says s (n - (k + 1)) (entry_on k i n h a)
