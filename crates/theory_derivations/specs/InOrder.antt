-- Refusals 6 to 9 apply nowhere exactly where the declarations are in order.
use Rattle.std.specs.Prelude.{ℕ, ◌≡◌, refl, ◌↔◌, ◌≢◌, Bool, true, false, cond}
use Rattle.std.proofs.Common.{sym, ◌∙◌, ap, subst, ⊎_elim}
use Rattle.std.proofs.Math.Logic.Iff
use mathlib.Core.List.Memᴰ
use mathlib.Core.List.{List, [], ◌∷◌, ◌++◌, cons-ne-nil}
use Rattle.std.proofs.Math.Bool.{So}
use Rattle.std.proofs.Math.Option.{Option, some, none, none-ne-some, some-injective}
use Rattle.notation.specs.Bytes.{same}
use Rattle.notation.specs.Tree.{Name, Located, Ty, unit, named, tensor, par, lolli, plus, with, Alternatives, alternative, Proc, empty, send_unit, send_channel, send_label, cancel, spawn, recv_unit, recv_channel, recv_label, fwd, call, raise, try, Branches, branch, Entry, Declaration, declare_type, declare_proc, declare_exec}
use Rattle.calculus.specs.Named.{In, lookup, is_some, any_of}
use Rattle.calculus.specs.Program.{Signature, Program, program_of}
use Rattle.calculus.specs.Verdict.{fine, faults}
use Rattle.calculus.specs.Outward.{Outward}
use Rattle.calculus.specs.Typing.{names_of}
use Rattle.calculus.specs.Declarations.{gather, type_name, process_name, channels, repeats, choice_labels, branch_labels, type_repeats, alternatives_repeats, entries_repeats, process_repeats, branches_repeats, own_repeats, repeated, unless_defined, type_undefined, alternatives_undefined, entries_undefined, process_undefined, branches_undefined, own_undefined, undefined, bare_name, own_bare_name, bare_names, entry_types, keeps_rule, breaking, wrong_execs, declared}
use Rattle.calculus.specs.InOrder.{Once, Defined, TypeInOrder, AlternativesInOrder, EntriesInOrder, ProcessInOrder, BranchesInOrder, DeclarationInOrder, InOrder}
use Rattle.theory_derivations.specs.Booleans.{never, ◌and◌, is_nil_iff, is_some_iff, each_cons, each_iff, fails_iff}
use Rattle.theory_derivations.specs.Lists.{none_iff}
use Rattle.theory_derivations.specs.Fine.{refuted, then_law}
use Rattle.theory_derivations.specs.Named.{listed_iff, held_iff}
use Rattle.theory_derivations.specs.Reached.{outward_iff}

-- ── no offsets
pub faults_iff : (n : ℕ) (l : List ℕ) → (faults n l ≡ fine) ↔ (l ≡ [])
unfolding faults
faults_iff n [] = (λ _. refl, λ _. refl)
faults_iff n (i ∷ l) = (refuted, λ e. absurd (cons-ne-nil _ _ e))

gather_iff : {X : Type 0} (f : Declaration → List X) (ds : List Declaration) → (gather f ds ≡ []) ↔ ((d : Declaration) → In d ds → f d ≡ [])
gather_iff f [] = (λ _ d m. elim m [ ], λ _. refl)
gather_iff f (d ∷ ds) = Iff.trans (none_iff (f d) (gather f ds)) (Iff.trans (Iff.and Iff.rfl (gather_iff f ds)) (each_cons (λ d. f d ≡ []) d ds))

-- an offset unless a test passes
unless_none : (b : Bool) (i : ℕ) (l : List ℕ) → (cond b l (i ∷ l) ≡ []) ↔ (So b × (l ≡ []))
unless_none true i l = (λ e. (refl, e), λ h. h.1)
unless_none false i l = (λ e. absurd (cons-ne-nil _ _ e), λ h. never h.0)

-- ── 6: nothing twice
repeats_iff : (before : List Name) (ns : List Located) → (repeats before ns ≡ []) ↔ (Once ns × ((x : Name) → In x (names_of ns) → ¬ In x before))
unfolding repeats
repeats_iff before [] = (λ _. (tt, λ x i. absurd (Memᴰ.not-nil i)), λ _. refl)
repeats_iff before (n ∷ ns) = go (any_of (same n.name) before) refl (repeats_iff (n.name ∷ before) ns)
  where
    go : (b : Bool) → any_of (same n.name) before ≡ b → (repeats (n.name ∷ before) ns ≡ []) ↔ (Once ns × ((x : Name) → In x (names_of ns) → ¬ In x (n.name ∷ before)))
        → (cond b (n.at ∷ repeats before ns) (repeats (n.name ∷ before) ns) ≡ []) ↔ (Once (n ∷ ns) × ((x : Name) → In x (n.name ∷ names_of ns) → ¬ In x before))
    go true z r = (λ e. absurd (cons-ne-nil _ _ e), λ h. absurd (h.1 n.name (Memᴰ.head refl) ((listed_iff n.name before).0 z)))
    go false z r = Iff.trans r (
      λ h. (((λ i. h.1 n.name i (Memᴰ.head refl)), h.0), (each_cons (λ x. ¬ In x before) n.name (names_of ns)).0 ((fails_iff (listed_iff n.name before)).0 z, λ x i m. h.1 x i (Memᴰ.tail m))),
      λ h. (h.0.1, λ x i m. ⊎_elim (λ e. h.0.0 (Memᴰ.cast (sym e) i)) (λ k. h.1 x (Memᴰ.tail i) k) (Memᴰ.cases_cons m)),
    )

pub once_iff : (ns : List Located) → (repeats [] ns ≡ []) ↔ Once ns
once_iff ns = Iff.trans (repeats_iff [] ns) (λ h. h.0, λ u. (u, λ x i m. Memᴰ.not-nil m))

-- ── 7: each name defined
defined_iff : {X : Type 0} (l : List (Name × X)) (n : Located) → (unless_defined l n ≡ []) ↔ Defined n l
defined_iff l n = Iff.trans
    (Iff.trans (unless_none (is_some (lookup n.name l)) n.at []) (λ h. (is_some_iff (lookup n.name l)).0 h.0, λ h. ((is_some_iff (lookup n.name l)).1 h, refl)))
    ((held_iff n.name l).1, (held_iff n.name l).0)

-- ── both passes over the parts of a tree
two : {A B : Type 0} {xs ys us vs : List ℕ} → ((xs ≡ []) × (us ≡ [])) ↔ A → ((ys ≡ []) × (vs ≡ [])) ↔ B → ((xs ++ ys ≡ []) × (us ++ vs ≡ [])) ↔ (A × B)
two {xs = xs} {ys} {us} {vs} f g = (
  λ (e, h). let a = (none_iff xs ys).0 e in let b = (none_iff us vs).0 h in (f.0 (a.0, b.0), g.0 (a.1, b.1)),
  λ (a, b). ((none_iff xs ys).1 ((f.1 a).0, (g.1 b).0), (none_iff us vs).1 ((f.1 a).1, (g.1 b).1)),
)

with_labels : {B : Type 0} (ns : List Located) {ys us : List ℕ} → ((ys ≡ []) × (us ≡ [])) ↔ B → ((repeats [] ns ++ ys ≡ []) × (us ≡ [])) ↔ (Once ns × B)
with_labels ns {ys} {us} g = (
  λ (e, h). let a = (none_iff (repeats [] ns) ys).0 e in ((once_iff ns).0 a.0, g.0 (a.1, h)),
  λ (a, b). ((none_iff (repeats [] ns) ys).1 ((once_iff ns).1 a, (g.1 b).0), (g.1 b).1),
)

nothing : ((Path (List ℕ) [] []) × (Path (List ℕ) [] [])) ↔ Unit {0}
nothing = (λ _. tt, λ _. (refl, refl))

module _ (p : Program) where
  mutual
    unfolding type_repeats alternatives_repeats type_undefined alternatives_undefined TypeInOrder AlternativesInOrder

    type_iff : (A : Ty Located) → ((type_repeats A ≡ []) × (type_undefined p A ≡ [])) ↔ TypeInOrder p A
    type_iff unit = nothing
    type_iff (named n) = (λ (_, e). (defined_iff p.types n).0 e, λ d. (refl, (defined_iff p.types n).1 d))
    type_iff (tensor A B) = two (type_iff A) (type_iff B)
    type_iff (par A B) = two (type_iff A) (type_iff B)
    type_iff (lolli A B) = two (type_iff A) (type_iff B)
    type_iff (plus r) = with_labels (choice_labels r) (alternatives_iff r)
    type_iff (with r) = with_labels (choice_labels r) (alternatives_iff r)

    alternatives_iff : (r : Alternatives Located) → ((alternatives_repeats r ≡ []) × (alternatives_undefined p r ≡ [])) ↔ AlternativesInOrder p r
    alternatives_iff Alternatives.none = nothing
    alternatives_iff (alternative l A r) = two (type_iff A) (alternatives_iff r)

  entries_iff : (l : List Entry) → ((entries_repeats l ≡ []) × (entries_undefined p l ≡ [])) ↔ EntriesInOrder p l
  entries_iff [] = (λ _ e m. elim m [ ], λ _. (refl, refl))
  entries_iff (e ∷ l) = Iff.trans (two (type_iff e.type) (entries_iff l)) (each_cons (λ (e : Entry). TypeInOrder p e.type) e l)

  mutual
    unfolding process_repeats branches_repeats process_undefined branches_undefined ProcessInOrder BranchesInOrder

    process_iff : (P : Proc) → ((process_repeats P ≡ []) × (process_undefined p P ≡ [])) ↔ ProcessInOrder p P
    process_iff (empty at) = nothing
    process_iff (send_unit at c P) = process_iff P
    process_iff (send_channel at c a P) = process_iff P
    process_iff (send_label at c l P) = process_iff P
    process_iff (cancel at c P) = process_iff P
    process_iff (spawn x A P Q) = two (type_iff A) (two (process_iff P) (process_iff Q))
    process_iff (recv_unit at c P) = process_iff P
    process_iff (recv_channel at c x P) = process_iff P
    process_iff (recv_label at c B) = with_labels (branch_labels B) (in_branches_iff B)
    process_iff (fwd at x c) = nothing
    process_iff (call at q bracket xs ys) = (λ (_, e). (defined_iff p.processes q).0 e, λ d. (refl, (defined_iff p.processes q).1 d))
    process_iff (raise at P) = process_iff P
    process_iff (try at P Q) = two (process_iff P) (process_iff Q)

    in_branches_iff : (B : Branches) → ((branches_repeats B ≡ []) × (branches_undefined p B ≡ [])) ↔ BranchesInOrder p B
    in_branches_iff Branches.none = nothing
    in_branches_iff (branch l P B) = two (process_iff P) (in_branches_iff B)

  -- ── 8: no bare name
  not_bare_iff : (A : Ty Located) → (bare_name A ≡ []) ↔ ((m : Located) → A ≢ named m)
  not_bare_iff A = (λ h m e. cons-ne-nil _ _ (sym (ap bare_name e) ∙ h), λ f. go A f)
    where
      go : (A : Ty Located) → ((m : Located) → A ≢ named m) → bare_name A ≡ []
      go unit f = refl
      go (named n) f = absurd (f n refl)
      go (tensor A B) f = refl
      go (par A B) f = refl
      go (lolli A B) f = refl
      go (plus r) f = refl
      go (with r) f = refl

  -- ── 9: the exec rule
  abbrev Exec : Option Signature → Type 0
  Exec o = (s : Signature) × (o ≡ some s) × (s.uses ≡ []) × ((A : Ty Name) → In A (entry_types s.provides) → Outward p A)

  exec_iff : (o : Option Signature) → (So (is_some o) × So (keeps_rule p o)) ↔ Exec o
  exec_iff none = (λ h. never h.0, λ (s, e, u, h). absurd (none-ne-some s e))
  exec_iff (some s) =
      let r = is_nil_iff s.uses and each_iff (outward_iff p) (entry_types s.provides) in (
        λ h. let x = r.0 h.1 in (s, refl, x.0, x.1),
        λ (t, e, u, h). let z = sym (some-injective s t e) in
            (refl, r.1 (subst (λ (t : Signature). t.uses ≡ []) z u, subst (λ (t : Signature). (A : Ty Name) → In A (entry_types t.provides) → Outward p A) z h)),
      )

  -- ── a declaration, by all four
  abbrev KeepsRule : Declaration → Type 0
  KeepsRule (declare_type n A) = Unit {0}
  KeepsRule (declare_proc n xs ys P) = Unit {0}
  KeepsRule (declare_exec n) = So (keeps_rule p (lookup n.name p.processes))

  own_iff : (d : Declaration) → (((own_repeats d ≡ []) × (own_undefined p d ≡ [])) × ((own_bare_name d ≡ []) × KeepsRule d)) ↔ DeclarationInOrder p d
  own_iff (declare_type n A) = Iff.and (type_iff A) (λ h. (not_bare_iff A).0 h.0, λ h. ((not_bare_iff A).1 h, tt))
  own_iff (declare_proc n xs ys P) = Iff.trans
      (λ h. h.0, λ h. (h, (refl, tt)))
      (with_labels (channels xs ++ channels ys) (two (entries_iff xs) (two (entries_iff ys) (process_iff P))))
  own_iff (declare_exec n) = Iff.trans (
    λ ((_, e), (_, k)). (((unless_none (is_some (lookup n.name p.processes)) n.at []).0 e).0, k),
    λ (e, k). ((refl, (unless_none (is_some (lookup n.name p.processes)) n.at []).1 (e, refl)), (refl, k)),
  ) (exec_iff (lookup n.name p.processes))

  -- ── over all declarations
  breaking_iff : (ds : List Declaration) → (breaking p (program_of ds).execs ≡ []) ↔ ((d : Declaration) → In d ds → KeepsRule d)
  unfolding program_of
  breaking_iff [] = (λ _ d m. elim m [ ], λ _. refl)
  breaking_iff (declare_type n A ∷ ds) = Iff.trans (breaking_iff ds) (Iff.trans (λ h. (tt, h), λ h. h.1) (each_cons KeepsRule (declare_type n A) ds))
  breaking_iff (declare_proc n xs ys P ∷ ds) = Iff.trans (breaking_iff ds) (Iff.trans (λ h. (tt, h), λ h. h.1) (each_cons KeepsRule (declare_proc n xs ys P) ds))
  breaking_iff (declare_exec n ∷ ds) = Iff.trans
      (unless_none (keeps_rule p (lookup n.name p.processes)) n.at (breaking p (program_of ds).execs))
      (Iff.trans (Iff.and Iff.rfl (breaking_iff ds)) (each_cons KeepsRule (declare_exec n) ds))

-- ── the four passes
pub declared_iff : (ds : List Declaration) → (declared ds ≡ fine) ↔ InOrder ds
unfolding declared repeated undefined bare_names wrong_execs
declared_iff ds = Iff.trans
    (then_law (faults_iff 6 (repeated ds)) (then_law (faults_iff 7 (undefined ds)) (then_law (faults_iff 8 (bare_names ds)) (faults_iff 9 (wrong_execs ds)))))
    (λ (r, (u, (b, w))). ordered r u b w, λ o. (once o, each_own o))
  where
    p : Program
    p = program_of ds

    types : List ℕ
    types = repeats [] (gather type_name ds)

    processes : List ℕ
    processes = repeats [] (gather process_name ds)

    own : List ℕ
    own = gather own_repeats ds

    ordered : types ++ (processes ++ own) ≡ [] → gather (own_undefined p) ds ≡ [] → gather own_bare_name ds ≡ [] → breaking p p.execs ≡ [] → InOrder ds
    ordered r u b w =
        let s = (none_iff types (processes ++ own)).0 r in
        let t = (none_iff processes own).0 s.1 in
        record {
          types = (once_iff (gather type_name ds)).0 s.0;
          processes = (once_iff (gather process_name ds)).0 t.0;
          each = λ d m. (own_iff p d).0 (((gather_iff own_repeats ds).0 t.1 d m, (gather_iff (own_undefined p) ds).0 u d m), ((gather_iff own_bare_name ds).0 b d m, (breaking_iff p ds).0 w d m));
        }

    once : InOrder ds → types ++ (processes ++ own) ≡ []
    once o = (none_iff types (processes ++ own)).1 (
      (once_iff (gather type_name ds)).1 o.types,
      (none_iff processes own).1 ((once_iff (gather process_name ds)).1 o.processes, (gather_iff own_repeats ds).1 (λ d m. ((own_iff p d).1 (o.each d m)).0.0)),
    )

    each_own : InOrder ds → (gather (own_undefined p) ds ≡ []) × ((gather own_bare_name ds ≡ []) × (breaking p p.execs ≡ []))
    each_own o = (
      (gather_iff (own_undefined p) ds).1 (λ d m. ((own_iff p d).1 (o.each d m)).0.1),
      ((gather_iff own_bare_name ds).1 (λ d m. ((own_iff p d).1 (o.each d m)).1.0), (breaking_iff p ds).1 (λ d m. ((own_iff p d).1 (o.each d m)).1.1)),
    )
