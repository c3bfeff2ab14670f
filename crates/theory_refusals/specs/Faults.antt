-- What refusals 6 to 9 gather are offsets of the script: X holds of each, if it holds of each offset of the script.
use Rattle.std.specs.Prelude.{ℕ, ◌≡◌, refl, ◌⊎◌, Bool, cond, ltb}
use Rattle.std.proofs.Common.{sym, ap, subst, inl, inr}
use mathlib.Core.List.Memᴰ
use mathlib.Core.List.{List, [], ◌∷◌, ◌++◌}
use Rattle.std.proofs.Math.Bool.{true, false}
use Rattle.notation.specs.Bytes.{same}
use Rattle.notation.specs.Tree.{Name, Located, Ty, unit, named, tensor, par, lolli, plus, with, Alternatives, alternative, Proc, empty, send_unit, send_channel, send_label, cancel, spawn, recv_unit, recv_channel, recv_label, fwd, call, raise, try, Branches, branch, Entry, Declaration, declare_type, declare_proc, declare_exec}
use Rattle.calculus.specs.Named.{lookup, is_some, any_of, In}
use Rattle.calculus.specs.Program.{Program, program_of}
use Rattle.calculus.specs.Declarations.{gather, type_name, process_name, channels, repeats, choice_labels, branch_labels, type_repeats, alternatives_repeats, entries_repeats, process_repeats, branches_repeats, own_repeats, repeated, unless_defined, type_undefined, alternatives_undefined, entries_undefined, process_undefined, branches_undefined, own_undefined, undefined, bare_name, own_bare_name, bare_names, keeps_rule, breaking, wrong_execs}
use Rattle.calculus.specs.Verdict.{lower, lowest}
use Rattle.theory_refusals.specs.Offsets.{TypeOffset, AlternativesOffset, ProcessOffset, BranchesOffset, EntriesOffset, DeclarationOffset, OffsetOf}

-- ── lists of offsets
pub record Each (X : ℕ → Type 0) (l : List ℕ) : Type 0 where
  pub all : (i : ℕ) → In i l → X i

-- the lowest is one of them
pub lowest_each : (X : ℕ → Type 0) (i : ℕ) (is : List ℕ) → X i → ((j : ℕ) → In j is → X j) → X (lowest i is)
lowest_each X i [] x f = x
lowest_each X i (j ∷ is) x f = lowest_each X (lower i j) is (go (ltb j i)) (λ k m. f k (Memᴰ.tail m))
  where
    go : (b : Bool) → X (cond b j i)
    go true = f j (Memᴰ.head refl)
    go false = x

-- ── names and labels that are listed are the script's
at_of : {n m : Located} → n ≡ m → m.at ≡ n.at
at_of e = ap (λ (n : Located). n.at) (sym e)

choice_labels_lem : (r : Alternatives Located) (n : Located) → In n (choice_labels r) → AlternativesOffset n.at r
unfolding AlternativesOffset
choice_labels_lem Alternatives.none n m = absurd (Memᴰ.not-nil m)
choice_labels_lem (alternative l A r) n (Memᴰ.head e) = inl (at_of e)
choice_labels_lem (alternative l A r) n (Memᴰ.tail m) = inr (inr (choice_labels_lem r n m))

branch_labels_lem : (B : Branches) (n : Located) → In n (branch_labels B) → BranchesOffset n.at B
unfolding BranchesOffset
branch_labels_lem Branches.none n m = absurd (Memᴰ.not-nil m)
branch_labels_lem (branch l P B) n (Memᴰ.head e) = inl (at_of e)
branch_labels_lem (branch l P B) n (Memᴰ.tail m) = inr (inr (branch_labels_lem B n m))

pub entry_channels : (l : List Entry) (n : Located) → In n (channels l) → EntriesOffset n.at l
unfolding EntriesOffset
entry_channels [] n m = absurd (Memᴰ.not-nil m)
entry_channels (e ∷ l) n (Memᴰ.head z) = inl (at_of z)
entry_channels (e ∷ l) n (Memᴰ.tail m) = inr (inr (entry_channels l n m))

-- the names of a signature
pub signature_channels : (xs ys : List Entry) (n : Located) → In n (channels xs ++ channels ys) → EntriesOffset n.at xs ⊎ EntriesOffset n.at ys
signature_channels xs ys n m = go (Memᴰ.append_cases (channels xs) m)
  where
    go : In n (channels xs) ⊎ In n (channels ys) → EntriesOffset n.at xs ⊎ EntriesOffset n.at ys
    go (inl m) = inl (entry_channels xs n m)
    go (inr m) = inr (entry_channels ys n m)

gathered : (f : Declaration → List Located) → ((a : Declaration) (n : Located) → In n (f a) → DeclarationOffset n.at a)
    → (ds : List Declaration) (n : Located) → In n (gather f ds) → OffsetOf n.at ds
unfolding OffsetOf
gathered f g [] n m = absurd (Memᴰ.not-nil m)
gathered f g (a ∷ r) n m = go (Memᴰ.append_cases (f a) m) (gathered f g r n)
  where
    go : In n (f a) ⊎ In n (gather f r) → (In n (gather f r) → OffsetOf n.at r) → DeclarationOffset n.at a ⊎ OffsetOf n.at r
    go (inl m) h = inl (g a n m)
    go (inr m) h = inr (h m)

type_named : (a : Declaration) (n : Located) → In n (type_name a) → DeclarationOffset n.at a
unfolding DeclarationOffset
type_named (declare_type t A) n (Memᴰ.head e) = inl (at_of e)
type_named (declare_type t A) n (Memᴰ.tail m) = absurd (Memᴰ.not-nil m)
type_named (declare_proc t xs ys P) n m = absurd (Memᴰ.not-nil m)
type_named (declare_exec t) n m = absurd (Memᴰ.not-nil m)

process_named : (a : Declaration) (n : Located) → In n (process_name a) → DeclarationOffset n.at a
unfolding DeclarationOffset
process_named (declare_type t A) n m = absurd (Memᴰ.not-nil m)
process_named (declare_proc t xs ys P) n (Memᴰ.head e) = inl (at_of e)
process_named (declare_proc t xs ys P) n (Memᴰ.tail m) = absurd (Memᴰ.not-nil m)
process_named (declare_exec t) n m = absurd (Memᴰ.not-nil m)

pub exec_named : (ds : List Declaration) (n : Located) → In n (program_of ds).execs → OffsetOf n.at ds
unfolding program_of OffsetOf DeclarationOffset
exec_named [] n m = absurd (Memᴰ.not-nil m)
exec_named (declare_type t A ∷ r) n m = inr (exec_named r n m)
exec_named (declare_proc t xs ys P ∷ r) n m = inr (exec_named r n m)
exec_named (declare_exec t ∷ r) n (Memᴰ.head e) = inl (at_of e)
exec_named (declare_exec t ∷ r) n (Memᴰ.tail m) = inr (exec_named r n m)

module _ (X : ℕ → Type 0) where
  each_none : Each X []
  each_none = record { all = λ i m. absurd (Memᴰ.not-nil m) }

  each_cons : (i : ℕ) {l : List ℕ} → X i → Each X l → Each X (i ∷ l)
  each_cons i {l} x h = record { all = go }
    where
      go : (j : ℕ) → In j (i ∷ l) → X j
      go j (Memᴰ.head e) = subst X (sym e) x
      go j (Memᴰ.tail m) = h.all j m

  each_append : (l m : List ℕ) → Each X l → Each X m → Each X (l ++ m)
  each_append [] m h g = g
  each_append (i ∷ l) m h g = each_cons i (h.all i (Memᴰ.head refl)) (each_append l m (record { all = λ j k. h.all j (Memᴰ.tail k) }) g)

  each_gather : (f : Declaration → List ℕ) → ((a : Declaration) → ((i : ℕ) → DeclarationOffset i a → X i) → Each X (f a))
      → (ds : List Declaration) → ((i : ℕ) → OffsetOf i ds → X i) → Each X (gather f ds)
  unfolding OffsetOf
  each_gather f g [] x = each_none
  each_gather f g (a ∷ r) x = each_append (f a) (gather f r) (g a (λ i o. x i (inl o))) (each_gather f g r (λ i o. x i (inr o)))

  -- ── 6
  each_repeats : (before : List Name) (ns : List Located) → ((n : Located) → In n ns → X n.at) → Each X (repeats before ns)
  unfolding repeats
  each_repeats before [] f = each_none
  each_repeats before (n ∷ ns) f = go (any_of (same n.name) before) (λ b. each_repeats b ns (λ m i. f m (Memᴰ.tail i)))
    where
      go : (b : Bool) → ((before : List Name) → Each X (repeats before ns)) → Each X (cond b (n.at ∷ repeats before ns) (repeats (n.name ∷ before) ns))
      go true h = each_cons n.at (f n (Memᴰ.head refl)) (h before)
      go false h = h (n.name ∷ before)

  mutual
    unfolding type_repeats TypeOffset

    type_repeats_lem : (A : Ty Located) → ((i : ℕ) → TypeOffset i A → X i) → Each X (type_repeats A)
    type_repeats_lem unit f = each_none
    type_repeats_lem (named n) f = each_none
    type_repeats_lem (tensor A B) f = each_append _ _ (type_repeats_lem A (λ i o. f i (inl o))) (type_repeats_lem B (λ i o. f i (inr o)))
    type_repeats_lem (par A B) f = each_append _ _ (type_repeats_lem A (λ i o. f i (inl o))) (type_repeats_lem B (λ i o. f i (inr o)))
    type_repeats_lem (lolli A B) f = each_append _ _ (type_repeats_lem A (λ i o. f i (inl o))) (type_repeats_lem B (λ i o. f i (inr o)))
    type_repeats_lem (plus r) f = each_append _ _ (each_repeats [] (choice_labels r) (λ n m. f n.at (choice_labels_lem r n m))) (alternatives_repeats_lem r f)
    type_repeats_lem (with r) f = each_append _ _ (each_repeats [] (choice_labels r) (λ n m. f n.at (choice_labels_lem r n m))) (alternatives_repeats_lem r f)

    alternatives_repeats_lem : (r : Alternatives Located) → ((i : ℕ) → AlternativesOffset i r → X i) → Each X (alternatives_repeats r)
    alternatives_repeats_lem Alternatives.none f = each_none
    alternatives_repeats_lem (alternative l A r) f = each_append _ _ (type_repeats_lem A (λ i o. f i (inr (inl o)))) (alternatives_repeats_lem r (λ i o. f i (inr (inr o))))

  entries_repeats_lem : (l : List Entry) → ((i : ℕ) → EntriesOffset i l → X i) → Each X (entries_repeats l)
  unfolding EntriesOffset
  entries_repeats_lem [] f = each_none
  entries_repeats_lem (e ∷ l) f = each_append _ _ (type_repeats_lem e.type (λ i o. f i (inr (inl o)))) (entries_repeats_lem l (λ i o. f i (inr (inr o))))

  mutual
    unfolding process_repeats ProcessOffset

    process_repeats_lem : (P : Proc) → ((i : ℕ) → ProcessOffset i P → X i) → Each X (process_repeats P)
    process_repeats_lem (empty at) f = each_none
    process_repeats_lem (send_unit at c P) f = process_repeats_lem P (λ i o. f i (inr o))
    process_repeats_lem (send_channel at c a P) f = process_repeats_lem P (λ i o. f i (inr o))
    process_repeats_lem (send_label at c l P) f = process_repeats_lem P (λ i o. f i (inr o))
    process_repeats_lem (cancel at c P) f = process_repeats_lem P (λ i o. f i (inr o))
    process_repeats_lem (spawn x A P Q) f =
        each_append _ _ (type_repeats_lem A (λ i o. f i (inr (inl o))))
        (each_append _ _ (process_repeats_lem P (λ i o. f i (inr (inr (inl o))))) (process_repeats_lem Q (λ i o. f i (inr (inr (inr o))))))
    process_repeats_lem (recv_unit at c P) f = process_repeats_lem P (λ i o. f i (inr o))
    process_repeats_lem (recv_channel at c x P) f = process_repeats_lem P (λ i o. f i (inr o))
    process_repeats_lem (recv_label at c B) f =
        each_append _ _ (each_repeats [] (branch_labels B) (λ n m. f n.at (inr (branch_labels_lem B n m)))) (branches_repeats_lem B (λ i o. f i (inr o)))
    process_repeats_lem (fwd at x c) f = each_none
    process_repeats_lem (call at p bracket xs ys) f = each_none
    process_repeats_lem (raise at P) f = process_repeats_lem P (λ i o. f i (inr o))
    process_repeats_lem (try at P Q) f = each_append _ _ (process_repeats_lem P (λ i o. f i (inr (inl o)))) (process_repeats_lem Q (λ i o. f i (inr (inr o))))

    branches_repeats_lem : (B : Branches) → ((i : ℕ) → BranchesOffset i B → X i) → Each X (branches_repeats B)
    branches_repeats_lem Branches.none f = each_none
    branches_repeats_lem (branch l P B) f = each_append _ _ (process_repeats_lem P (λ i o. f i (inr (inl o)))) (branches_repeats_lem B (λ i o. f i (inr (inr o))))

  own_repeats_lem : (a : Declaration) → ((i : ℕ) → DeclarationOffset i a → X i) → Each X (own_repeats a)
  unfolding DeclarationOffset
  own_repeats_lem (declare_type n A) f = type_repeats_lem A (λ i o. f i (inr o))
  own_repeats_lem (declare_proc n xs ys P) f =
      each_append _ _ (each_repeats [] (channels xs ++ channels ys) (λ n m. listed n (signature_channels xs ys n m)))
      (each_append _ _ (entries_repeats_lem xs (λ i o. f i (inr (inl o))))
      (each_append _ _ (entries_repeats_lem ys (λ i o. f i (inr (inr (inl o))))) (process_repeats_lem P (λ i o. f i (inr (inr (inr o)))))))
    where
      listed : (n : Located) → EntriesOffset n.at xs ⊎ EntriesOffset n.at ys → X n.at
      listed n (inl o) = f n.at (inr (inl o))
      listed n (inr o) = f n.at (inr (inr (inl o)))
  own_repeats_lem (declare_exec n) f = each_none

  -- ── 7
  each_unless_defined : {Y : Type 0} (defined : List (Name × Y)) (n : Located) → X n.at → Each X (unless_defined defined n)
  each_unless_defined defined n x = go (is_some (lookup n.name defined))
    where
      go : (b : Bool) → Each X (cond b [] (n.at ∷ []))
      go true = each_none
      go false = each_cons n.at x each_none

  module _ (p : Program) where
    mutual
      unfolding type_undefined TypeOffset

      type_undefined_lem : (A : Ty Located) → ((i : ℕ) → TypeOffset i A → X i) → Each X (type_undefined p A)
      type_undefined_lem unit f = each_none
      type_undefined_lem (named n) f = each_unless_defined p.types n (f n.at refl)
      type_undefined_lem (tensor A B) f = each_append _ _ (type_undefined_lem A (λ i o. f i (inl o))) (type_undefined_lem B (λ i o. f i (inr o)))
      type_undefined_lem (par A B) f = each_append _ _ (type_undefined_lem A (λ i o. f i (inl o))) (type_undefined_lem B (λ i o. f i (inr o)))
      type_undefined_lem (lolli A B) f = each_append _ _ (type_undefined_lem A (λ i o. f i (inl o))) (type_undefined_lem B (λ i o. f i (inr o)))
      type_undefined_lem (plus r) f = alternatives_undefined_lem r f
      type_undefined_lem (with r) f = alternatives_undefined_lem r f

      alternatives_undefined_lem : (r : Alternatives Located) → ((i : ℕ) → AlternativesOffset i r → X i) → Each X (alternatives_undefined p r)
      alternatives_undefined_lem Alternatives.none f = each_none
      alternatives_undefined_lem (alternative l A r) f = each_append _ _ (type_undefined_lem A (λ i o. f i (inr (inl o)))) (alternatives_undefined_lem r (λ i o. f i (inr (inr o))))

    entries_undefined_lem : (l : List Entry) → ((i : ℕ) → EntriesOffset i l → X i) → Each X (entries_undefined p l)
    unfolding EntriesOffset
    entries_undefined_lem [] f = each_none
    entries_undefined_lem (e ∷ l) f = each_append _ _ (type_undefined_lem e.type (λ i o. f i (inr (inl o)))) (entries_undefined_lem l (λ i o. f i (inr (inr o))))

    mutual
      unfolding process_undefined ProcessOffset

      process_undefined_lem : (P : Proc) → ((i : ℕ) → ProcessOffset i P → X i) → Each X (process_undefined p P)
      process_undefined_lem (empty at) f = each_none
      process_undefined_lem (send_unit at c P) f = process_undefined_lem P (λ i o. f i (inr o))
      process_undefined_lem (send_channel at c a P) f = process_undefined_lem P (λ i o. f i (inr o))
      process_undefined_lem (send_label at c l P) f = process_undefined_lem P (λ i o. f i (inr o))
      process_undefined_lem (cancel at c P) f = process_undefined_lem P (λ i o. f i (inr o))
      process_undefined_lem (spawn x A P Q) f =
          each_append _ _ (type_undefined_lem A (λ i o. f i (inr (inl o))))
          (each_append _ _ (process_undefined_lem P (λ i o. f i (inr (inr (inl o))))) (process_undefined_lem Q (λ i o. f i (inr (inr (inr o))))))
      process_undefined_lem (recv_unit at c P) f = process_undefined_lem P (λ i o. f i (inr o))
      process_undefined_lem (recv_channel at c x P) f = process_undefined_lem P (λ i o. f i (inr o))
      process_undefined_lem (recv_label at c B) f = branches_undefined_lem B (λ i o. f i (inr o))
      process_undefined_lem (fwd at x c) f = each_none
      process_undefined_lem (call at q bracket xs ys) f = each_unless_defined p.processes q (f q.at (inr refl))
      process_undefined_lem (raise at P) f = process_undefined_lem P (λ i o. f i (inr o))
      process_undefined_lem (try at P Q) f = each_append _ _ (process_undefined_lem P (λ i o. f i (inr (inl o)))) (process_undefined_lem Q (λ i o. f i (inr (inr o))))

      branches_undefined_lem : (B : Branches) → ((i : ℕ) → BranchesOffset i B → X i) → Each X (branches_undefined p B)
      branches_undefined_lem Branches.none f = each_none
      branches_undefined_lem (branch l P B) f = each_append _ _ (process_undefined_lem P (λ i o. f i (inr (inl o)))) (branches_undefined_lem B (λ i o. f i (inr (inr o))))

    own_undefined_lem : (a : Declaration) → ((i : ℕ) → DeclarationOffset i a → X i) → Each X (own_undefined p a)
    unfolding DeclarationOffset
    own_undefined_lem (declare_type n A) f = type_undefined_lem A (λ i o. f i (inr o))
    own_undefined_lem (declare_proc n xs ys P) f =
        each_append _ _ (entries_undefined_lem xs (λ i o. f i (inr (inl o))))
        (each_append _ _ (entries_undefined_lem ys (λ i o. f i (inr (inr (inl o))))) (process_undefined_lem P (λ i o. f i (inr (inr (inr o))))))
    own_undefined_lem (declare_exec n) f = each_unless_defined p.processes n (f n.at refl)

  -- ── 8 and 9
  bare_name_lem : (A : Ty Located) → ((i : ℕ) → TypeOffset i A → X i) → Each X (bare_name A)
  unfolding TypeOffset
  bare_name_lem unit f = each_none
  bare_name_lem (named n) f = each_cons n.at (f n.at refl) each_none
  bare_name_lem (tensor A B) f = each_none
  bare_name_lem (par A B) f = each_none
  bare_name_lem (lolli A B) f = each_none
  bare_name_lem (plus r) f = each_none
  bare_name_lem (with r) f = each_none

  own_bare_name_lem : (a : Declaration) → ((i : ℕ) → DeclarationOffset i a → X i) → Each X (own_bare_name a)
  unfolding DeclarationOffset
  own_bare_name_lem (declare_type n A) f = bare_name_lem A (λ i o. f i (inr o))
  own_bare_name_lem (declare_proc n xs ys P) f = each_none
  own_bare_name_lem (declare_exec n) f = each_none

  each_breaking : (p : Program) (ns : List Located) → ((n : Located) → In n ns → X n.at) → Each X (breaking p ns)
  each_breaking p [] f = each_none
  each_breaking p (n ∷ ns) f = go (keeps_rule p (lookup n.name p.processes)) (each_breaking p ns (λ m i. f m (Memᴰ.tail i)))
    where
      go : (b : Bool) → Each X (breaking p ns) → Each X (cond b (breaking p ns) (n.at ∷ breaking p ns))
      go true h = h
      go false h = each_cons n.at (f n (Memᴰ.head refl)) h

  -- ── the four passes
  module _ (ds : List Declaration) (x : (i : ℕ) → OffsetOf i ds → X i) where
    pub repeated_each : Each X (repeated ds)
    unfolding repeated
    repeated_each =
        each_append _ _ (each_repeats [] (gather type_name ds) (λ n m. x n.at (gathered type_name type_named ds n m)))
        (each_append _ _ (each_repeats [] (gather process_name ds) (λ n m. x n.at (gathered process_name process_named ds n m))) (each_gather own_repeats own_repeats_lem ds x))

    pub undefined_each : Each X (undefined ds)
    unfolding undefined
    undefined_each = each_gather (own_undefined (program_of ds)) (own_undefined_lem (program_of ds)) ds x

    pub bare_names_each : Each X (bare_names ds)
    unfolding bare_names
    bare_names_each = each_gather own_bare_name own_bare_name_lem ds x

    pub wrong_execs_each : Each X (wrong_execs ds)
    unfolding wrong_execs
    wrong_execs_each = each_breaking (program_of ds) (program_of ds).execs (λ n m. x n.at (exec_named ds n m))
