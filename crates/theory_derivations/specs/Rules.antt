-- The check of a process is fine exactly where the rules type it.
use Rattle.std.specs.Prelude.{ℕ, ◌≡◌, ◌↔◌, List, [], ◌∷◌, ◌++◌, true}
use Rattle.std.proofs.Math.Path.{refl}
use Rattle.std.proofs.Common.{sym, ◌∙◌, ap}
use Rattle.std.proofs.Math.Logic.Iff
use mathlib.Core.List.Memᴰ
use Rattle.std.proofs.Math.Bool.{and-eq-true_iff}
use Rattle.std.proofs.lemmas.Bool.{false≢true}
use Rattle.std.proofs.Math.Option.{Option, some, some-injective}
use Rattle.notation.specs.Tree.{Name, Ty, unit, Alternatives, Proc, empty, send_unit, send_channel, send_label, cancel, spawn, recv_unit, recv_channel, recv_label, fwd, call, raise, try, Branches, branch}
use Rattle.calculus.specs.Named.{In, NoneTwice, lookup, names, is_some, every}
use Rattle.calculus.specs.Types.{Side, provided, used, other, same_side, passing, choosing, labelled}
use Rattle.calculus.specs.Program.{Slot, slot, Context, Held, Program}
use Rattle.calculus.specs.Mentions.{spawn_takes, spawn_leaves, never_both, exactly_one}
use Rattle.calculus.specs.Typing.{acting, names_of, NoOtherHeld, ListFits, Typed, TypedBranches, sends_unit, recvs_unit, sends_channel, recvs_channel, sends_label, recvs_label, forwards, calls, raises, cancels, empties, last_branch, one_branch}
use Rattle.calculus.specs.Verdict.{fine}
use Rattle.calculus.specs.Checking.{fitting, without_all, check, check_branches}
use Rattle.theory_derivations.specs.Booleans.{itself, no_iff, ◌and◌, is_nil_iff, is_some_iff}
use Rattle.theory_derivations.specs.Equality.{same_iff}
use Rattle.theory_derivations.specs.Fine.{fine_law, then_law, demand_law, having_law}
use Rattle.theory_derivations.specs.Named.{distinct_iff, held_iff}
use Rattle.theory_derivations.specs.Permuted.{without_all_iff}
use Rattle.theory_derivations.specs.Parts.{side_iff, is_unit_on_iff, fits_slot_iff, may_bring_iff, list_fits_iff, lists_held, lists_tested}
use Rattle.theory_derivations.specs.OneType.{one_sym}
use Rattle.theory_derivations.specs.Halves.{spawn_iff, try_iff}

-- what stands there, by another name for it
found : {X : Type 0} {o : Option X} {x y : X} → o ≡ some x → x ≡ y → o ≡ some y
found e h = e ∙ ap some h

-- ── no other channel held
two_held : (G : Context) (x c : Name) {A B : Ty Name} → lookup x G ≡ some (slot provided A) → lookup c G ≡ some (slot used B)
    → (without_all (x ∷ c ∷ []) G ≡ []) ↔ NoOtherHeld (x ∷ c ∷ []) G
two_held G x c {A} {B} ex ec = without_all_iff (x ∷ c ∷ []) G ((λ m. apart (Memᴰ.eq_of_singleton m)), ((λ m. Memᴰ.not-nil m), tt)) held
  where
    apart : x ≡ c → ⊥
    apart e = false≢true (ap (λ (s : Slot). same_side s.side used) (some-injective _ _ (sym ex ∙ ap (λ n. lookup n G) e ∙ ec)))

    held : (n : Name) → In n (x ∷ c ∷ []) → Held n G
    held n (Memᴰ.head e) = (held_iff n G).1 (slot provided A, ap (λ n. lookup n G) e ∙ ex)
    held n (Memᴰ.tail m) = (held_iff n G).1 (slot used B, ap (λ n. lookup n G) (Memᴰ.eq_of_singleton m) ∙ ec)

lists_all : {equal : Ty Name → Ty Name → Type 0} {G : Context} {s r : Side} {xs ys : List Name} {es fs : List (Name × Ty Name)}
    → ListFits equal G s xs es → ListFits equal G r ys fs → NoneTwice (xs ++ ys) → (without_all (xs ++ ys) G ≡ []) ↔ NoOtherHeld (xs ++ ys) G
lists_all {G = G} {xs = xs} {ys} f g u = without_all_iff (xs ++ ys) G u (lists_held xs ys f g)

module _ (p : Program) where
  -- the branches of a derivation have labels of the type
  branches_fit : {G : Context} {c : Name} {r : Alternatives Name} (B : Branches) → TypedBranches p G c r B → fitting r B ≡ true
  unfolding fitting
  branches_fit Branches.none d = refl
  branches_fit {r = r} (branch l P B) (one_branch A el d f) = (and-eq-true_iff (is_some (labelled l.name r)) (fitting r B)).1 ((is_some_iff (labelled l.name r)).1 (A, el), branches_fit B f)

  mutual
    unfolding check check_branches

    pub check_iff : (P : Proc) (G : Context) → (check p G P ≡ fine) ↔ Typed p G P
    check_iff (empty at) G = Iff.trans
        (demand_law _ _ (is_nil_iff G) fine_law)
        (λ (e, _). empties e, λ d. elim d [ empties e ↦ (e, tt) ])
    check_iff (send_unit at c P) G = Iff.trans
        (having_law _ _ (acting p c.name G) λ h. demand_law _ _ (is_unit_on_iff provided h) (check_iff P _))
        (λ (h, eh, (hs, d)). sends_unit (found eh hs) d, λ d. elim d [ sends_unit eh d ↦ (slot provided unit, eh, (refl, d)) ])
    check_iff (send_channel at c a P) G = Iff.trans
        (having_law _ _ (acting p c.name G) λ h. having_law _ _ (lookup a.name G) λ e.
        demand_law _ _ (no_iff (same_iff c.name a.name)) (having_law _ _ (passing h.type) λ t.
        demand_law _ _ (side_iff t.sender h and fits_slot_iff p t.side t.what e) (check_iff P _))) (
          λ (h, eh, (e, ee, (n, (t, et, ((hs, (es, st)), d))))). sends_channel h.type e.type t n et (found eh hs) (found ee es) st d,
          λ d. elim d [ sends_channel T A t n et eh ee st d ↦ (slot t.sender T, eh, (slot t.side A, ee, (n, (t, et, ((refl, (refl, st)), d))))) ],
        )
    check_iff (send_label at c l P) G = Iff.trans
        (having_law _ _ (acting p c.name G) λ h. having_law _ _ (choosing h.type) λ t.
        demand_law _ _ (side_iff t.sender h) (having_law _ _ (labelled l.name t.labels) λ A. check_iff P _)) (
          λ (h, eh, (t, et, (hs, (A, el, d)))). sends_label h.type A t et (found eh hs) el d,
          λ d. elim d [ sends_label T A t et eh el d ↦ (slot t.sender T, eh, (t, et, (refl, (A, el, d)))) ],
        )
    check_iff (cancel at c P) G = Iff.trans
        (having_law _ _ (lookup c.name G) λ h. check_iff P _) (
          λ (h, eh, d). cancels ((held_iff c.name G).1 (h, eh)) d,
          λ d. elim d [ cancels e d ↦ let r = (held_iff c.name G).0 e in (r.0, r.1, d) ],
        )
    check_iff (spawn x A P Q) G = Iff.trans
        (demand_law _ _ (itself (never_both x.name P Q (names G))) (
        demand_law _ _ (may_bring_iff x.name G (spawn_takes x.name P G) and may_bring_iff x.name G (spawn_leaves x.name P G))
        (then_law (check_iff P _) (check_iff Q _))))
        spawn_iff
    check_iff (recv_unit at c P) G = Iff.trans
        (having_law _ _ (acting p c.name G) λ h. demand_law _ _ (is_unit_on_iff used h) (check_iff P _))
        (λ (h, eh, (hs, d)). recvs_unit (found eh hs) d, λ d. elim d [ recvs_unit eh d ↦ (slot used unit, eh, (refl, d)) ])
    check_iff (recv_channel at c x P) G = Iff.trans
        (having_law _ _ (acting p c.name G) λ h. having_law _ _ (passing h.type) λ t.
        demand_law _ _ (side_iff (other t.sender) h) (demand_law _ _ (may_bring_iff x.name G G) (check_iff P _))) (
          λ (h, eh, (t, et, (hs, (b, d)))). recvs_channel h.type t et (found eh hs) b d,
          λ d. elim d [ recvs_channel T t et eh b d ↦ (slot (other t.sender) T, eh, (t, et, (refl, (b, d)))) ],
        )
    check_iff (recv_label at c B) G = Iff.trans
        (having_law _ _ (acting p c.name G) λ h. having_law _ _ (choosing h.type) λ t.
        demand_law _ _ (side_iff (other t.sender) h) (demand_law _ _ (itself (fitting t.labels B)) (branches_iff B G at c.name t.labels))) (
          λ (h, eh, (t, et, (hs, (_, d)))). recvs_label h.type t et (found eh hs) d,
          λ d. elim d [ recvs_label T t et eh d ↦ (slot (other t.sender) T, eh, (t, et, (refl, (branches_fit B d, d)))) ],
        )
    check_iff (fwd at x c) G = Iff.trans
        (having_law _ _ (lookup x.name G) λ h. having_law _ _ (lookup c.name G) λ e.
        demand_law _ _ (side_iff provided h and fits_slot_iff p used h.type e)
        (demand_law _ _ (is_nil_iff (without_all (x.name ∷ c.name ∷ []) G)) fine_law)) (
          λ (h, eh, (e, ee, ((hs, (es, st)), (n, _)))). forwards h.type e.type (found eh hs) (found ee es) (one_sym p st) ((two_held G x.name c.name (found eh hs) (found ee es)).0 n),
          λ d. elim d [ forwards A B eh ee st n ↦ (slot provided A, eh, (slot used B, ee, ((refl, (refl, one_sym p st)), ((two_held G x.name c.name eh ee).1 n, tt)))) ],
        )
    check_iff (call at q bracket xs ys) G = Iff.trans
        (demand_law _ _ (itself (every (λ n. is_some (lookup n G)) (names_of xs ++ names_of ys))) (having_law _ _ (lookup q.name p.processes) λ s.
        demand_law _ _ (list_fits_iff p G provided (names_of xs) s.provides and list_fits_iff p G used (names_of ys) s.uses) (
        demand_law _ _ (distinct_iff (names_of xs ++ names_of ys)) (demand_law _ _ (is_nil_iff (without_all (names_of xs ++ names_of ys) G)) fine_law)))) (
          λ (_, (s, es, ((f, g), (u, (n, _))))). calls s es f g u ((lists_all f g u).0 n),
          λ d. elim d [ calls s es f g u n ↦ (lists_tested (names_of xs) (names_of ys) f g, (s, es, ((f, g), (u, ((lists_all f g u).1 n, tt))))) ],
        )
    check_iff (raise at P) G = Iff.trans (check_iff P G) (λ d. raises d, λ d. elim d [ raises d ↦ d ])
    check_iff (try at P Q) G = Iff.trans
        (demand_law _ _ (itself (exactly_one P Q (names G))) (then_law (check_iff P _) (check_iff Q _)))
        try_iff

    pub branches_iff : (B : Branches) (G : Context) (at : ℕ) (c : Name) (r : Alternatives Name)
        → (check_branches p G at c r B ≡ fine) ↔ TypedBranches p G c r B
    branches_iff Branches.none G at c r = (λ _. last_branch, λ _. refl)
    branches_iff (branch l P B) G at c r = Iff.trans
        (having_law _ _ (labelled l.name r) λ A. then_law (check_iff P _) (branches_iff B G at c r))
        (λ (A, el, (d, f)). one_branch A el d f, λ d. elim d [ one_branch A el d f ↦ (A, el, (d, f)) ])
