-- Types that reach another mark than 1, * and +: the test, which goes through as many names as there are types, is exact.
use Rattle.std.specs.Prelude.{◌≡◌, ◌↔◌, ◌⊎◌, Bool, true, false, cond, ◌||◌}
use Rattle.std.proofs.Math.Path.{refl}
use Rattle.std.proofs.Common.{sym, ◌∙◌, ap, subst, arith}
use Rattle.std.proofs.Math.Logic.{inl, inr}
use mathlib.Core.List.Memᴰ
use mathlib.Core.List.Sublistᴰ
use mathlib.Core.List.{List, [], ◌∷◌, Sublistᴰ}
use Rattle.std.proofs.Math.Option.{Option, some, none, get_or}
use Rattle.std.proofs.Math.Bool.{So}
use Prim.Native.Nat.{ℕ, zero, suc, ◌≤◌}
use Rattle.std.proofs.Math.ListN.{length}
use Rattle.std.proofs.Math.Decide.{ℕ_discrete}
use Rattle.notation.specs.Tree.{Name, Ty, unit, named, tensor, par, lolli, plus, with, Alternatives, alternative}
use Rattle.calculus.specs.Named.{In, lookup}
use Rattle.calculus.specs.Types.{unfolded}
use Rattle.calculus.specs.Declarations.{has_other, have_other, names_with_other, reach_other, outward}
use Rattle.calculus.specs.Program.{Program}
use Rattle.calculus.specs.Outward.{ReachesOther, at_par, at_lolli, at_with, in_first, in_second, in_choice, through_name, SomeReaches, at_this, at_another, Outward}
use Rattle.theory_derivations.specs.Booleans.{never, no_iff, cond_true}
use Rattle.theory_derivations.specs.Lists.{sub_in, sub_length}
use Rattle.theory_derivations.specs.Named.{listed_iff, lookup_in}

-- ── more bad names, more types that have one
or_elim : {X : Type 0} (a b : Bool) → (So a → X) → (So b → X) → So (a || b) → X
or_elim true b f g e = f refl
or_elim false b f g e = g e

or_left : (a b : Bool) → So a → So (a || b)
or_left true b e = refl
or_left false b e = never e

or_right : (a b : Bool) → So b → So (a || b)
or_right true b e = refl
or_right false b e = e

or_mono : {a a' b b' : Bool} → (So a → So a') → (So b → So b') → So (a || b) → So (a' || b')
or_mono {a = a} {a'} {b} {b'} f g e = or_elim a b (λ h. or_left a' b' (f h)) (λ h. or_right a' b' (g h)) e

module _ {bad bad' : List Name} (s : Sublistᴰ bad bad') where
  mutual
    unfolding has_other have_other

    has_more : (A : Ty Name) → So (has_other bad A) → So (has_other bad' A)
    has_more unit e = e
    has_more (named n) e = (listed_iff n bad').1 (sub_in s ((listed_iff n bad).0 e))
    has_more (tensor A B) e = or_mono (λ h. has_more A h) (λ h. has_more B h) e
    has_more (par A B) e = e
    has_more (lolli A B) e = e
    has_more (plus r) e = have_more r e
    has_more (with r) e = e

    have_more : (r : Alternatives Name) → So (have_other bad r) → So (have_other bad' r)
    have_more Alternatives.none e = e
    have_more (alternative l A r) e = or_mono (λ h. has_more A h) (λ h. have_more r h) e

  names_more : (l : List (Name × Ty Name)) → Sublistᴰ (names_with_other bad l) (names_with_other bad' l)
  names_more [] = Sublistᴰ.slnil
  names_more (e ∷ l) = go (has_other bad e.1) (has_other bad' e.1) (has_more e.1) (names_more l)
    where
      go : (a b : Bool) → (So a → So b) → Sublistᴰ (names_with_other bad l) (names_with_other bad' l)
          → Sublistᴰ (cond a (e.0 ∷ names_with_other bad l) (names_with_other bad l)) (cond b (e.0 ∷ names_with_other bad' l) (names_with_other bad' l))
      go true true f r = Sublistᴰ.cons-cons refl r
      go true false f r = never (f refl)
      go false true f r = Sublistᴰ.cons r
      go false false f r = r

names_length : (bad : List Name) (l : List (Name × Ty Name)) → length (names_with_other bad l) ≤ length l
names_length bad [] = omega arith
names_length bad (e ∷ l) = go (has_other bad e.1) (names_length bad l)
  where
    go : (b : Bool) → length (names_with_other bad l) ≤ length l → length (cond b (e.0 ∷ names_with_other bad l) (names_with_other bad l)) ≤ suc (length l)
    go true r = omega arith
    go false r = omega arith

sub_whole : {A : Type 0} {l m : List A} → Sublistᴰ l m → length l ≡ length m → l ≡ m
sub_whole Sublistᴰ.slnil e = refl
sub_whole (Sublistᴰ.cons s) e = let b = sub_length s in absurd (omega arith)
sub_whole (Sublistᴰ.cons-cons h s) e = λ i. h i ∷ sub_whole s (omega arith) i

-- ── after as many rounds as there are types, nothing is added
module _ (types : List (Name × Ty Name)) where
  abbrev reach : ℕ → List Name
  reach n = reach_other n types

  rounds_sub : (n : ℕ) → Sublistᴰ (reach n) (reach (suc n))
  unfolding reach_other
  rounds_sub zero = Sublistᴰ.nil-sublist (names_with_other [] types)
  rounds_sub (suc n) = names_more (rounds_sub n) types

  rounds : (n : ℕ) → (reach (suc n) ≡ reach n) ⊎ (suc n ≤ length (reach (suc n)))
  unfolding reach_other
  rounds zero = go (names_with_other [] types)
    where
      go : (l : List Name) → (l ≡ []) ⊎ (1 ≤ length l)
      go [] = inl refl
      go (x ∷ l) = inr (omega arith)
  rounds (suc n) = go (rounds n) (ℕ_discrete (length (reach (suc n))) (length (reach (suc (suc n)))))
    where
      go : (reach (suc n) ≡ reach n) ⊎ (suc n ≤ length (reach (suc n))) → Dec (length (reach (suc n)) ≡ length (reach (suc (suc n))))
          → (reach (suc (suc n)) ≡ reach (suc n)) ⊎ (suc (suc n) ≤ length (reach (suc (suc n))))
      go (inl e) d = inl (ap (λ b. names_with_other b types) e)
      go (inr h) (yes e) = inl (sym (sub_whole (rounds_sub (suc n)) e))
      go (inr h) (no e) = inr (omega (arith, sub_length (rounds_sub (suc n))))

  closed : names_with_other (reach (length types)) types ≡ reach (length types)
  unfolding reach_other
  closed = go (rounds (length types))
    where
      go : (reach (suc (length types)) ≡ reach (length types)) ⊎ (suc (length types) ≤ length (reach (suc (length types))))
          → names_with_other (reach (length types)) types ≡ reach (length types)
      go (inl e) = e
      go (inr h) = absurd (omega (arith, names_length (reach (length types)) types))

  names_in_bad : (bad : List Name) (l : List (Name × Ty Name)) (n : Name) (D : Ty Name) → In (n, D) l → So (has_other bad D) → In n (names_with_other bad l)
  names_in_bad bad [] n D m z = elim m [ ]
  names_in_bad bad (e ∷ l) n D (Memᴰ.head h) z =
      subst (In n) (sym (cond_true (e.0 ∷ names_with_other bad l) (names_with_other bad l) (ap (λ (x : Name × Ty Name). has_other bad x.1) (sym h) ∙ z)))
      (Memᴰ.head (ap (λ (x : Name × Ty Name). x.0) h))
  names_in_bad bad (e ∷ l) n D (Memᴰ.tail m) z = go (has_other bad e.1) (names_in_bad bad l n D m z)
    where
      go : (b : Bool) → In n (names_with_other bad l) → In n (cond b (e.0 ∷ names_with_other bad l) (names_with_other bad l))
      go true r = Memᴰ.tail r
      go false r = r

-- ── the test is exact
module _ (p : Program) where
  abbrev Reaching : List Name → Type 0
  Reaching bad = (n : Name) → In n bad → ReachesOther p (named n)

  -- where each of the names given reaches another mark, what has one of them does
  module _ (bad : List Name) (known : Reaching bad) where
    mutual
      unfolding has_other have_other

      has_reaches : (A : Ty Name) → So (has_other bad A) → ReachesOther p A
      has_reaches unit e = never e
      has_reaches (named n) e = known n ((listed_iff n bad).0 e)
      has_reaches (tensor A B) e = or_elim (has_other bad A) (has_other bad B) (λ h. in_first (has_reaches A h)) (λ h. in_second (has_reaches B h)) e
      has_reaches (par A B) e = at_par
      has_reaches (lolli A B) e = at_lolli
      has_reaches (plus r) e = in_choice (have_reaches r e)
      has_reaches (with r) e = at_with

      have_reaches : (r : Alternatives Name) → So (have_other bad r) → SomeReaches p r
      have_reaches Alternatives.none e = never e
      have_reaches (alternative l A r) e = or_elim (has_other bad A) (have_other bad r) (λ h. at_this (has_reaches A h)) (λ h. at_another (have_reaches r h)) e

    names_reach : (l : List (Name × Ty Name)) → ((x : Name × Ty Name) → In x l → In x p.types) → Reaching (names_with_other bad l)
    names_reach [] h n i = absurd (Memᴰ.not-nil i)
    names_reach (e ∷ l) h n i = go (has_other bad e.1) refl (names_reach l (λ x m. h x (Memᴰ.tail m)) n) i
      where
        go : (b : Bool) → has_other bad e.1 ≡ b → (In n (names_with_other bad l) → ReachesOther p (named n)) → In n (cond b (e.0 ∷ names_with_other bad l) (names_with_other bad l)) → ReachesOther p (named n)
        go true z r (Memᴰ.head k) = through_name e.1 (h (n, e.1) (Memᴰ.head (λ i. (k i, e.1)))) (has_reaches e.1 z)
        go true z r (Memᴰ.tail k) = r k
        go false z r k = r k

  rounds_reach : (n : ℕ) → Reaching (reach_other n p.types)
  unfolding reach_other
  rounds_reach zero = λ n i. absurd (Memᴰ.not-nil i)
  rounds_reach (suc m) = names_reach (reach_other m p.types) (rounds_reach m) p.types (λ x i. i)

  -- and after the last round nothing more does
  abbrev last : List Name
  last = reach_other (length p.types) p.types

  mutual
    unfolding has_other have_other

    reaches_has : {A : Ty Name} → ReachesOther p A → So (has_other last A)
    reaches_has at_par = refl
    reaches_has at_lolli = refl
    reaches_has at_with = refl
    reaches_has (in_first {A} {B} r) = or_left (has_other last A) (has_other last B) (reaches_has r)
    reaches_has (in_second {A} {B} r) = or_right (has_other last A) (has_other last B) (reaches_has r)
    reaches_has (in_choice r) = some_has r
    reaches_has (through_name {n} A m r) = (listed_iff n last).1 (subst (In n) (closed p.types) (names_in_bad p.types last p.types n A m (reaches_has r)))

    some_has : {r : Alternatives Name} → SomeReaches p r → So (have_other last r)
    some_has (at_this {l} {A} {r} h) = or_left (has_other last A) (have_other last r) (reaches_has h)
    some_has (at_another {l} {A} {r} h) = or_right (has_other last A) (have_other last r) (some_has h)

  pub outward_iff : (A : Ty Name) → (outward p A ≡ true) ↔ Outward p A
  unfolding outward
  outward_iff A = no_iff (has_reaches last (rounds_reach (length p.types)) A, λ r. reaches_has r)

  -- a name reaches what its definition does
  pub standing_reaches : (A : Ty Name) → ReachesOther p (unfolded p.types A) → ReachesOther p A
  standing_reaches unit r = r
  standing_reaches (named n) r = go (lookup n p.types) refl r
    where
      go : (o : Option (Ty Name)) → lookup n p.types ≡ o → ReachesOther p (get_or o (named n)) → ReachesOther p (named n)
      go none z h = h
      go (some D) z h = through_name D (lookup_in n p.types z) h
  standing_reaches (tensor A B) r = r
  standing_reaches (par A B) r = r
  standing_reaches (lolli A B) r = r
  standing_reaches (plus q) r = r
  standing_reaches (with q) r = r
