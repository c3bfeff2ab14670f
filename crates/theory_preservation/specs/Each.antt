-- What holds of each element of a list holds of each element of the lists that are made of it.
use Rattle.std.specs.Prelude.{ℕ, zero, suc, ◌≡◌, refl, take, drop, set}
use Rattle.std.proofs.Common.{sym, subst, ⊎_elim, take-append-drop}
use mathlib.Core.List.Memᴰ
use mathlib.Core.List.{List, [], ◌∷◌, ◌++◌, map, Sublistᴰ}
use Rattle.std.proofs.Math.Option
use Rattle.std.proofs.Math.Option.{Option, some, none}
use Rattle.std.proofs.Math.ListN.{get_elem?}
use Rattle.notation.specs.Tree.{Name}
use Rattle.calculus.specs.Configuration.{End, Doing, Process, relinked, moved_up, moved_down, inserted, removed}
use Rattle.calculus.specs.Steps.{put_at, changed_at}
use Rattle.calculus.specs.Named.{In}
use Rattle.theory_derivations.specs.Booleans.{each_cons}
use Rattle.theory_derivations.specs.Lists.{sub_in}
use Rattle.theory_ends.specs.Lists.{found_in, put_in, take_out}

-- Q holds of each element
abbrev pub Each : {A : Type 0} → (A → Type 0) → List A → Type 0
Each {A} Q l = (x : A) → In x l → Q x

module _ {A : Type 0} (Q : A → Type 0) where
  pub each_none : Each Q []
  each_none x i = absurd (Memᴰ.not-nil i)

  pub each_one : (a : A) → Q a → Each Q (a ∷ [])
  each_one a q x i = subst Q (sym (Memᴰ.eq_of_singleton i)) q

  pub each_sub : {l m : List A} → Sublistᴰ l m → Each Q m → Each Q l
  each_sub s f x i = f x (sub_in s i)

  pub each_append : (l m : List A) → Each Q l → Each Q m → Each Q (l ++ m)
  each_append l m f g x i = ⊎_elim (f x) (g x) (Memᴰ.append_cases l i)

  pub each_more : (l : List A) (a : A) → Each Q l → Q a → Each Q (l ++ (a ∷ []))
  each_more l a f q = each_append l (a ∷ []) f (each_one a q)

  each_map : (g : A → A) → ((x : A) → Q x → Q (g x)) → (l : List A) → Each Q l → Each Q (map g l)
  each_map g h l f x i = let y = Memᴰ.of_map g l i in subst Q y.2 (h y.0 (f y.0 y.1))

  pub each_set : (l : List A) (i : ℕ) (a : A) → Each Q l → Q a → Each Q (set l i a)
  each_set [] i a f q x m = elim m [ ]
  each_set (y ∷ l) zero a f q x (Memᴰ.head e) = subst Q (sym e) q
  each_set (y ∷ l) zero a f q x (Memᴰ.tail m) = f x (Memᴰ.tail m)
  each_set (y ∷ l) (suc i) a f q x (Memᴰ.head e) = f x (Memᴰ.head e)
  each_set (y ∷ l) (suc i) a f q x (Memᴰ.tail m) = each_set l i a (λ z k. f z (Memᴰ.tail k)) q x m

  -- the first n elements, and those after them
  each_take : (n : ℕ) (l : List A) → Each Q l → Each Q (take n l)
  each_take n l f x i = f x (subst (In x) (take-append-drop n l) (Memᴰ.append_left (drop n l) i))

  each_drop : (n : ℕ) (l : List A) → Each Q l → Each Q (drop n l)
  each_drop n l f x i = f x (subst (In x) (take-append-drop n l) (Memᴰ.append_right (take n l) i))

  each_in : (n : ℕ) (a : A) (l : List A) → Each Q l → Q a → Each Q (put_in n a l)
  each_in n a l f q = each_append (take n l) (a ∷ drop n l) (each_take n l f) ((each_cons Q a (drop n l)).0 (q, each_drop n l f))

  each_out : (n : ℕ) (l : List A) → Each Q l → Each Q (take_out n l)
  each_out n l f = each_append (take n l) (drop (suc n) l) (each_take n l f) (each_drop (suc n) l f)

-- ── what holds of what each process does and holds
module _ (Q : Doing → List (Name × End) → Type 0) where
  abbrev pub EachProcess : List Process → Type 0
  EachProcess l = Each (λ (q : Process). Q q.doing q.held) l

  pub each_inserted : (i : ℕ) (q : Process) (l : List Process) → EachProcess l → Q q.doing q.held → EachProcess (inserted i q l)
  unfolding inserted
  each_inserted i q l f u = each_in _ (suc i) q (map (relinked (moved_up i)) l) (each_map _ (relinked (moved_up i)) (λ r v. v) l f) u

  pub each_removed : (i : ℕ) (l : List Process) → EachProcess l → EachProcess (removed i l)
  unfolding removed
  each_removed i l f = each_out _ i (map (relinked (moved_down i)) l) (each_map _ (relinked (moved_down i)) (λ r v. v) l f)

  -- a process goes on
  pub each_changed_at : (g : Process → Process) → ((q : Process) → Q q.doing q.held → Q (g q).doing (g q).held) → (o : Option ℕ) (l : List Process) → EachProcess l
      → EachProcess (changed_at g o l)
  each_changed_at g keeps none l f = f
  each_changed_at g keeps (some j) l f = go (get_elem? l j) (λ q e. f q (found_in l j e))
    where
      go : (o : Option Process) → ((q : Process) → o ≡ some q → Q q.doing q.held) → EachProcess (put_at l j (Option.map g o))
      go none h = f
      go (some q) h = each_set _ l j (g q) f (keeps q (h q refl))
