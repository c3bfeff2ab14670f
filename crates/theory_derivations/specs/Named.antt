-- Lists of named things: what the tests of names say, and what a name stands for.
use Rattle.std.specs.Prelude.{◌≡◌, refl, ◌↔◌, ◌≢◌, ◌⊎◌, Bool, true, false}
use Rattle.std.proofs.Math.Path.{sym, ap}
use Rattle.std.proofs.Common.{subst, inl, inr}
use Rattle.std.proofs.Math.Logic.Iff
use mathlib.Core.List.Memᴰ
use mathlib.Core.List.{List, [], ◌∷◌}
use Rattle.std.proofs.Math.Bool.{cond, So}
use Rattle.std.proofs.Math.Option.{Option, some, none, none-ne-some, some-injective}
use Rattle.notation.specs.Bytes.{same}
use Rattle.notation.specs.Tree.{Name}
use Rattle.calculus.specs.Named.{In, NoneTwice, lookup, names, any_of, distinct}
use Rattle.theory_derivations.specs.Booleans.{any_iff, fails_iff, unless_cond}
use Rattle.theory_derivations.specs.Equality.{same_cases, same_iff}

-- a goal that depends on the test of two names
pub by_test : (Q : Bool → Type 0) (c n : Name) → (c ≡ n → Q true) → (c ≢ n → Q false) → Q (same c n)
by_test Q c n f g = go (same_cases c n)
  where
    go : (So (same c n) × (c ≡ n)) ⊎ ((same c n ≡ false) × (c ≢ n)) → Q (same c n)
    go (inl h) = subst Q (sym h.0) (f h.1)
    go (inr h) = subst Q (sym h.0) (g h.1)

-- a name among others
pub listed_iff : (n : Name) (l : List Name) → So (any_of (same n) l) ↔ In n l
listed_iff n l = Iff.trans (any_iff (same n) l) (λ (x, i, e). Memᴰ.cast ((same_iff n x).0 e) i, λ i. (n, i, (same_iff n n).1 refl))

pub distinct_iff : (l : List Name) → (distinct l ≡ true) ↔ NoneTwice l
unfolding distinct
distinct_iff [] = (λ _. tt, λ _. refl)
distinct_iff (n ∷ l) = Iff.trans (unless_cond (any_of (same n) l) (distinct l)) (Iff.and (fails_iff (listed_iff n l)) (distinct_iff l))

module _ {X : Type 0} where
  pub names_in : (l : List (Name × X)) {x : Name × X} → In x l → In x.0 (names l)
  unfolding names
  names_in [] i = elim i [ ]
  names_in (e ∷ l) (Memᴰ.head h) = Memᴰ.head (ap (λ (e : Name × X). e.0) h)
  names_in (e ∷ l) (Memᴰ.tail i) = Memᴰ.tail (names_in l i)

  pub lookup_in : (c : Name) (l : List (Name × X)) {x : X} → lookup c l ≡ some x → In (c, x) l
  unfolding lookup
  lookup_in c [] {x} e = absurd (none-ne-some x e)
  lookup_in c (a ∷ l) {x} e =
      by_test (λ b. cond b (some a.1) (lookup c l) ≡ some x → In (c, x) (a ∷ l)) c a.0
      (λ p h. Memᴰ.head (λ i. (p i, sym (some-injective a.1 x h) i))) (λ n h. Memᴰ.tail (lookup_in c l h)) e

  pub in_lookup : (l : List (Name × X)) → NoneTwice (names l) → (x : Name × X) → In x l → lookup x.0 l ≡ some x.1
  unfolding lookup names
  in_lookup [] u x i = absurd (Memᴰ.not-nil i)
  in_lookup (a ∷ l) u x (Memᴰ.head h) =
      by_test (λ b. cond b (some a.1) (lookup x.0 l) ≡ some x.1) x.0 a.0
      (λ p. ap (λ (e : Name × X). some e.1) (sym h)) (λ n. absurd (n (ap (λ (e : Name × X). e.0) h)))
  in_lookup (a ∷ l) u x (Memᴰ.tail i) =
      by_test (λ b. cond b (some a.1) (lookup x.0 l) ≡ some x.1) x.0 a.0
      (λ p. absurd (u.0 (Memᴰ.cast (sym p) (names_in l i)))) (λ n. in_lookup l u.1 x i)

  pub absent : (c : Name) (l : List (Name × X)) → lookup c l ≡ none → ¬ In c (names l)
  unfolding lookup names
  absent c [] e i = Memᴰ.not-nil i
  absent c (a ∷ l) e i =
      by_test (λ b. cond b (some a.1) (lookup c l) ≡ none → ⊥) c a.0
      (λ p h. none-ne-some a.1 (sym h)) (λ n h. go n (absent c l h) (Memᴰ.cases_cons i)) e
    where
      go : c ≢ a.0 → ¬ In c (names l) → (c ≡ a.0) ⊎ In c (names l) → ⊥
      go n r (inl p) = n p
      go n r (inr k) = r k

  -- what is held is found
  pub held_iff : (c : Name) (l : List (Name × X)) → In c (names l) ↔ ((x : X) × (lookup c l ≡ some x))
  held_iff c l = (λ m. go (lookup c l) refl m, λ (x, e). names_in l (lookup_in c l e))
    where
      go : (o : Option X) → lookup c l ≡ o → In c (names l) → (x : X) × (o ≡ some x)
      go none e m = absurd (absent c l e m)
      go (some x) e m = (x, refl)
