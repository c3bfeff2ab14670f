-- Tests of lists: with the place of each element, and of each two elements.
use Prim.Native.Nat.{ℕ, zero, suc, ◌+◌}
use native.Mathlib.Omega.{arith}
use Rattle.std.proofs.Math.Nat.{add-zero}
use Rattle.std.proofs.Common.{zero-add, sym, ◌∙◌, ap, ⊎_elim, true≢false}
use Rattle.std.specs.Prelude.{◌≡◌, ◌↔◌, Bool, true, false, cond}
use Rattle.std.proofs.Math.Path.{refl, subst}
use Rattle.std.proofs.Math.Logic.Iff
use mathlib.Core.List.Memᴰ
use mathlib.Core.List.{List, [], ◌∷◌}
use Rattle.std.proofs.Math.Bool.{So}
use Rattle.std.proofs.Math.Option.{some, none-ne-some, some-injective}
use Rattle.std.proofs.Math.ListN.{get_elem?}
use Rattle.calculus.specs.Named.{every, In}
use Rattle.theory_derivations.specs.Booleans.{never, bool_cases, and_cond, each_cons, all_iff}
use Rattle.theory_ends.specs.Lists.{found_in, in_found}

-- the second test where the first passes
abbrev pub implies : Bool → Bool → Bool
implies a b = cond a b true

pub implies_iff : {A B : Type 0} {a b : Bool} → So a ↔ A → So b ↔ B → So (implies a b) ↔ (A → B)
implies_iff {a = true} f g = (λ e x. g.0 e, λ h. g.1 (h (f.0 refl)))
implies_iff {a = false} f g = (λ e x. never (f.1 x), λ h. refl)

module _ {X : Type 0} where
  pub all_law : {A : X → Type 0} (f : X → Bool) (l : List X) → ((x : X) → So (f x) ↔ A x) → So (every f l) ↔ ((x : X) → In x l → A x)
  all_law f l g = Iff.trans (all_iff f l) (λ h x m. (g x).0 (h x m), λ h x m. (g x).1 (h x m))

  -- each element passes the test with its place, counted from k
  unfoldable pub all_from : (ℕ → X → Bool) → ℕ → List X → Bool
  all_from f k [] = true
  all_from f k (x ∷ l) = let r = all_from f (suc k) l in cond (f k x) r false

  all_from_at : (f : ℕ → X → Bool) (k : ℕ) (l : List X) → So (all_from f k l) → (i : ℕ) (x : X) → get_elem? l i ≡ some x → So (f (k + i) x)
  unfolding all_from
  all_from_at f k [] e i x h = absurd (none-ne-some x h)
  all_from_at f k (y ∷ l) e zero x h = rw (add-zero, ← some-injective y x h) ((and_cond (f k y) (all_from f (suc k) l)).0 e).0
  all_from_at f k (y ∷ l) e (suc i) x h =
      let n : suc k + i ≡ k + suc i = omega arith in
      subst (λ m. So (f m x)) n (all_from_at f (suc k) l ((and_cond (f k y) (all_from f (suc k) l)).0 e).1 i x h)

  at_all_from : (f : ℕ → X → Bool) (k : ℕ) (l : List X) → ((i : ℕ) (x : X) → get_elem? l i ≡ some x → So (f (k + i) x)) → So (all_from f k l)
  unfolding all_from
  at_all_from f k [] h = refl
  at_all_from f k (y ∷ l) h = (and_cond (f k y) (all_from f (suc k) l)).1 (rw add-zero at (h zero y refl), at_all_from f (suc k) l later)
    where
      later : (i : ℕ) (x : X) → get_elem? l i ≡ some x → So (f (suc k + i) x)
      later i x e = let n : k + suc i ≡ suc k + i = omega arith in subst (λ m. So (f m x)) n (h (suc i) x e)

  pub all_from_law : {A : ℕ → X → Type 0} (f : ℕ → X → Bool) (l : List X) → ((i : ℕ) (x : X) → So (f i x) ↔ A i x)
      → So (all_from f 0 l) ↔ ((i : ℕ) (x : X) → get_elem? l i ≡ some x → A i x)
  all_from_law f l g = (
    λ e i x h. (g i x).0 (rw zero-add at (all_from_at f 0 l e i x h)),
    λ h. at_all_from f 0 l (λ i x e. rw zero-add ((g i x).1 (h i x e))),
  )

  -- ── each two elements
  abbrev pub Pairwise : (X → X → Bool) → List X → Type 0
  Pairwise f [] = Unit {0}
  Pairwise f (x ∷ l) = ((y : X) → In y l → So (f x y)) × Pairwise f l

  -- each element passes the test with those before it: `seen`, the last one first
  unfoldable pub pairwise : (X → X → Bool) → List X → List X → Bool
  pairwise f seen [] = true
  pairwise f seen (x ∷ l) = let r = pairwise f (x ∷ seen) l in cond (every (f x) seen) r false

module _ {X : Type 0} (f : X → X → Bool) (symmetric : (x y : X) → f x y ≡ f y x) where
  abbrev Beside : List X → List X → Type 0
  Beside seen l = ((x : X) → In x l → (y : X) → In y seen → So (f x y)) × Pairwise f l

  -- x goes from what is to come to what is seen
  passed : (x : X) (l seen : List X) → (((y : X) → In y seen → So (f x y)) × Beside (x ∷ seen) l) ↔ Beside seen (x ∷ l)
  passed x l seen = (
    λ (h, (k, u)). ((each_cons (λ z. (y : X) → In y seen → So (f z y)) x l).0 (h, λ z m y n. k z m y (Memᴰ.tail n)), (from_seen k, u)),
    λ (k, (h, u)). (k x (Memᴰ.head refl), (λ z m. (each_cons (λ y. So (f z y)) x seen).0 (symmetric z x ∙ h z m, k z (Memᴰ.tail m)), u)),
  )
    where
      from_seen : ((z : X) → In z l → (y : X) → In y (x ∷ seen) → So (f z y)) → (y : X) → In y l → So (f x y)
      from_seen k y m = symmetric x y ∙ k y m x (Memᴰ.head refl)

  pairwise_beside : (l seen : List X) → So (pairwise f seen l) ↔ Beside seen l
  unfolding pairwise
  pairwise_beside [] seen = (λ e. (λ x m. elim m [ ], tt), λ h. refl)
  pairwise_beside (x ∷ l) seen =
      Iff.trans (Iff.trans (and_cond (every (f x) seen) (pairwise f (x ∷ seen) l)) (Iff.and (all_iff (f x) seen) (pairwise_beside l (x ∷ seen)))) (passed x l seen)

  pub pairwise_iff : (l : List X) → So (pairwise f [] l) ↔ Pairwise f l
  pairwise_iff l = Iff.trans (pairwise_beside l []) (λ h. h.1, λ h. (λ x m y n. elim n [ ], h))

  -- no two places fail the test
  abbrev pub Apart : List X → Type 0
  Apart l = (i j : ℕ) (x y : X) → get_elem? l i ≡ some x → get_elem? l j ≡ some y → f x y ≡ false → i ≡ j

  pairwise_apart : (l : List X) → Pairwise f l → Apart l
  pairwise_apart [] p i j x y a b e = absurd (none-ne-some x a)
  pairwise_apart (z ∷ l) p zero zero x y a b e = refl
  pairwise_apart (z ∷ l) p zero (suc j) x y a b e =
      absurd (true≢false (sym (p.0 y (found_in l j b)) ∙ ap (λ w. f w y) (some-injective z x a) ∙ e))
  pairwise_apart (z ∷ l) p (suc i) zero x y a b e =
      absurd (true≢false (sym (p.0 x (found_in l i a)) ∙ ap (λ w. f w x) (some-injective z y b) ∙ symmetric y x ∙ e))
  pairwise_apart (z ∷ l) p (suc i) (suc j) x y a b e = ap suc (pairwise_apart l p.1 i j x y a b e)

  apart_pairwise : (l : List X) → Apart l → Pairwise f l
  apart_pairwise [] h = tt
  apart_pairwise (x ∷ l) h = (λ y m. ⊎_elim (λ e. e) (λ e. absurd (elsewhere (in_found m) e)) (bool_cases (f x y)), apart_pairwise l later)
    where
      elsewhere : {y : X} → (j : ℕ) × (get_elem? l j ≡ some y) → f x y ≡ false → ⊥
      elsewhere {y} r e = let n = h zero (suc r.0) x y refl r.1 e in omega arith

      later : Apart l
      later i j y z a b e = let n = h (suc i) (suc j) y z a b e in omega arith

  pub apart_iff : (l : List X) → So (pairwise f [] l) ↔ Apart l
  apart_iff l = Iff.trans (pairwise_iff l) (pairwise_apart l, apart_pairwise l)
