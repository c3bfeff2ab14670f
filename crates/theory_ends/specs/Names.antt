-- Lists of named things: what a name stands for, and what is left, kept or changed.
use Rattle.std.specs.Prelude.{◌≡◌, ◌≢◌, ◌⊎◌, Bool}
use Rattle.std.proofs.Math.Path.{refl, ap}
use Rattle.std.proofs.Common.{sym, ◌∙◌, inl, inr}
use mathlib.Core.List.Memᴰ
use mathlib.Core.List.Sublistᴰ
use mathlib.Core.List.{List, [], ◌∷◌, ◌++◌, map, Sublistᴰ}
use Rattle.std.proofs.Math.Option
use Rattle.std.proofs.Math.Option.{Option, some, some-injective}
use Rattle.std.proofs.Math.Bool.{true, false, cond, So}
use Prim.Native.Nat.{suc}
use Rattle.std.proofs.Math.ListN.{length}
use Rattle.notation.specs.Tree.{Name}
use Rattle.calculus.specs.Named.{lookup, without, changed, kept, names, In, NoneTwice}
use Rattle.theory_derivations.specs.Named.{by_test, lookup_in}

module _ {X : Type 0} where
  pub names_map : (l : List (Name × X)) → names l ≡ map (λ (e : Name × X). e.0) l
  unfolding names
  names_map [] = refl
  names_map (e ∷ l) = ap (λ r. e.0 ∷ r) (names_map l)

  pub names_append : (l m : List (Name × X)) → names (l ++ m) ≡ names l ++ names m
  unfolding names
  names_append [] m = refl
  names_append (e ∷ l) m = ap (λ r. e.0 ∷ r) (names_append l m)

  pub without_sub : (c : Name) (l : List (Name × X)) → Sublistᴰ (without c l) l
  unfolding without
  without_sub c [] = Sublistᴰ.slnil
  without_sub c (a ∷ l) =
      by_test (λ b. Sublistᴰ (cond b l (a ∷ without c l)) (a ∷ l)) c a.0
      (λ _. Sublistᴰ.cons (Sublistᴰ.refl l)) (λ _. Sublistᴰ.cons-cons refl (without_sub c l))

  pub kept_sub : (p : Name → Bool) (l : List (Name × X)) → Sublistᴰ (kept p l) l
  unfolding kept
  kept_sub p [] = Sublistᴰ.slnil
  kept_sub p (a ∷ l) = go (p a.0) (kept_sub p l)
    where
      go : (b : Bool) → Sublistᴰ (kept p l) l → Sublistᴰ (cond b (a ∷ kept p l) (kept p l)) (a ∷ l)
      go true s = Sublistᴰ.cons-cons refl s
      go false s = Sublistᴰ.cons s

  pub kept_in : (p : Name → Bool) (l : List (Name × X)) {x : Name × X} → In x (kept p l) → So (p x.0)
  unfolding kept
  kept_in p [] i = absurd (Memᴰ.not-nil i)
  kept_in p (a ∷ l) {x} i = go (p a.0) refl (kept_in p l) i
    where
      go : (b : Bool) → p a.0 ≡ b → (In x (kept p l) → So (p x.0)) → In x (cond b (a ∷ kept p l) (kept p l)) → So (p x.0)
      go true e r (Memᴰ.head h) = ap (λ (y : Name × X). p y.0) h ∙ e
      go true e r (Memᴰ.tail k) = r k
      go false e r k = r k

  -- what is left beside c is another thing, where g tells things apart
  pub without_cases : {B : Type 0} (g : X → B) (c : Name) (l : List (Name × X)) (e : X) → NoneTwice (map (λ (x : Name × X). g x.1) l) → lookup c l ≡ some e
      → (x : Name × X) → In x (without c l) → In x l × (g x.1 ≢ g e)
  unfolding lookup without
  without_cases g c [] e u z x i = absurd (Memᴰ.not-nil i)
  without_cases g c (a ∷ l) e u z x i =
      by_test (λ b. cond b (some a.1) (lookup c l) ≡ some e → In x (cond b l (a ∷ without c l)) → In x (a ∷ l) × (g x.1 ≢ g e)) c a.0 found
      (λ n h. passed h (λ k. without_cases g c l e u.1 h x k)) z i
    where
      other : {y : Name × X} → In y l → g a.1 ≢ g y.1
      other k h = u.0 (Memᴰ.cast h (Memᴰ.map (λ (x : Name × X). g x.1) k))

      found : c ≡ a.0 → Path (Option X) (some a.1) (some e) → In x l → In x (a ∷ l) × (g x.1 ≢ g e)
      found p h k = (Memᴰ.tail k, λ t. other k (ap g (some-injective a.1 e h) ∙ sym t))

      passed : lookup c l ≡ some e → (In x (without c l) → In x l × (g x.1 ≢ g e)) → In x (a ∷ without c l) → In x (a ∷ l) × (g x.1 ≢ g e)
      passed h r (Memᴰ.head k) = (Memᴰ.head k, λ t. other (lookup_in c l h) (ap (λ (y : Name × X). g y.1) (sym k) ∙ t))
      passed h r (Memᴰ.tail k) = let t = r k in (Memᴰ.tail t.0, t.1)

  -- an entry after a change at c: the changed one, or another thing
  pub changed_cases : {B : Type 0} (g : X → B) (c : Name) (f : X → X) (l : List (Name × X)) (e : X) → NoneTwice (map (λ (x : Name × X). g x.1) l) → lookup c l ≡ some e
      → (x : Name × X) → In x (changed c f l) → (x.1 ≡ f e) ⊎ (In x l × (g x.1 ≢ g e))
  unfolding lookup changed
  changed_cases g c f [] e u z x i = absurd (Memᴰ.not-nil i)
  changed_cases g c f (a ∷ l) e u z x i =
      by_test (λ b. cond b (some a.1) (lookup c l) ≡ some e → In x (cond b ((a.0, f a.1) ∷ l) (a ∷ changed c f l)) → (x.1 ≡ f e) ⊎
      (In x (a ∷ l) × (g x.1 ≢ g e))) c a.0 found (λ n h. passed h (λ k. changed_cases g c f l e u.1 h x k)) z i
    where
      other : {y : Name × X} → In y l → g a.1 ≢ g y.1
      other k h = u.0 (Memᴰ.cast h (Memᴰ.map (λ (x : Name × X). g x.1) k))

      found : c ≡ a.0 → Path (Option X) (some a.1) (some e) → In x ((a.0, f a.1) ∷ l) → (x.1 ≡ f e) ⊎ (In x (a ∷ l) × (g x.1 ≢ g e))
      found p h (Memᴰ.head k) = inl (ap (λ (y : Name × X). y.1) k ∙ ap f (some-injective a.1 e h))
      found p h (Memᴰ.tail k) = inr (Memᴰ.tail k, λ t. other k (ap g (some-injective a.1 e h) ∙ sym t))

      further : (x.1 ≡ f e) ⊎ (In x l × (g x.1 ≢ g e)) → (x.1 ≡ f e) ⊎ (In x (a ∷ l) × (g x.1 ≢ g e))
      further (inl h) = inl h
      further (inr h) = inr (Memᴰ.tail h.0, h.1)

      passed : lookup c l ≡ some e → (In x (changed c f l) → (x.1 ≡ f e) ⊎ (In x l × (g x.1 ≢ g e))) → In x (a ∷ changed c f l) → (x.1 ≡ f e) ⊎ (In x (a ∷ l) × (g x.1 ≢ g e))
      passed h r (Memᴰ.head k) = inr (Memᴰ.head k, λ t. other (lookup_in c l h) (ap (λ (y : Name × X). g y.1) (sym k) ∙ t))
      passed h r (Memᴰ.tail k) = further (r k)

  pub changed_names : (c : Name) (f : X → X) (l : List (Name × X)) → names (changed c f l) ≡ names l
  unfolding changed names
  changed_names c f [] = refl
  changed_names c f (a ∷ l) =
      by_test (λ b. names (cond b ((a.0, f a.1) ∷ l) (a ∷ changed c f l)) ≡ a.0 ∷ names l) c a.0 (λ _. refl) (λ _. ap (λ r. a.0 ∷ r) (changed_names c f l))

  pub changed_length : (c : Name) (f : X → X) (l : List (Name × X)) → length (changed c f l) ≡ length l
  unfolding changed
  changed_length c f [] = refl
  changed_length c f (a ∷ l) =
      by_test (λ b. length (cond b ((a.0, f a.1) ∷ l) (a ∷ changed c f l)) ≡ suc (length l)) c a.0 (λ _. refl) (λ _. ap suc (changed_length c f l))

  -- a change that g does not see
  pub changed_map : {B : Type 0} (g : X → B) (c : Name) (f : X → X) → ((x : X) → g (f x) ≡ g x) → (l : List (Name × X))
      → map (λ (x : Name × X). g x.1) (changed c f l) ≡ map (λ (x : Name × X). g x.1) l
  unfolding changed
  changed_map g c f h [] = refl
  changed_map g c f h (a ∷ l) =
      by_test (λ b. map (λ (x : Name × X). g x.1) (cond b ((a.0, f a.1) ∷ l) (a ∷ changed c f l)) ≡ map (λ (x : Name × X). g x.1) (a ∷ l)) c a.0
      (λ _. ap (λ y. y ∷ map (λ (x : Name × X). g x.1) l) (h a.1)) (λ _. ap (λ r. g a.1 ∷ r) (changed_map g c f h l))

-- ── what a test of typing sees of each thing: lookups and changes commute with it
module _ {X Y : Type 0} (g : X → Y) where
  abbrev pub seen_as : List (Name × X) → List (Name × Y)
  seen_as l = map (λ (e : Name × X). (e.0, g e.1)) l

  pub lookup_seen : (c : Name) (l : List (Name × X)) → lookup c (seen_as l) ≡ Option.map g (lookup c l)
  unfolding lookup
  lookup_seen c [] = refl
  lookup_seen c (a ∷ l) = by_test (λ b. cond b (some (g a.1)) (lookup c (seen_as l)) ≡ Option.map g (cond b (some a.1) (lookup c l))) c a.0 (λ _. refl) (λ _. lookup_seen c l)

  pub without_seen : (c : Name) (l : List (Name × X)) → without c (seen_as l) ≡ seen_as (without c l)
  unfolding without
  without_seen c [] = refl
  without_seen c (a ∷ l) =
      by_test (λ b. cond b (seen_as l) ((a.0, g a.1) ∷ without c (seen_as l)) ≡ seen_as (cond b l (a ∷ without c l))) c a.0
      (λ _. refl) (λ _. ap (λ r. (a.0, g a.1) ∷ r) (without_seen c l))

  pub kept_seen : (p : Name → Bool) (l : List (Name × X)) → kept p (seen_as l) ≡ seen_as (kept p l)
  unfolding kept
  kept_seen p [] = refl
  kept_seen p (a ∷ l) = go (p a.0) (kept_seen p l)
    where
      go : (b : Bool) → kept p (seen_as l) ≡ seen_as (kept p l) → cond b ((a.0, g a.1) ∷ kept p (seen_as l)) (kept p (seen_as l)) ≡ seen_as (cond b (a ∷ kept p l) (kept p l))
      go true r = ap (λ r. (a.0, g a.1) ∷ r) r
      go false r = r

  pub changed_seen : (c : Name) (f : X → X) (h : Y → Y) → ((x : X) → h (g x) ≡ g (f x)) → (l : List (Name × X)) → changed c h (seen_as l) ≡ seen_as (changed c f l)
  unfolding changed
  changed_seen c f h z [] = refl
  changed_seen c f h z (a ∷ l) =
      by_test (λ b. cond b ((a.0, h (g a.1)) ∷ seen_as l) ((a.0, g a.1) ∷ changed c h (seen_as l)) ≡ seen_as (cond b ((a.0, f a.1) ∷ l) (a ∷ changed c f l))) c a.0
      (λ _. ap (λ y. (a.0, y) ∷ seen_as l) (z a.1)) (λ _. ap (λ r. (a.0, g a.1) ∷ r) (changed_seen c f h z l))

  pub names_seen : (l : List (Name × X)) → names (seen_as l) ≡ names l
  unfolding names
  names_seen [] = refl
  names_seen (a ∷ l) = ap (λ r. a.0 ∷ r) (names_seen l)
