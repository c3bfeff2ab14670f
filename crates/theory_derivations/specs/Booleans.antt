-- What the Boolean tests of the definitions say.
use Rattle.std.specs.Prelude.{ℕ, ◌≤◌, ◌<◌, ◌≡◌, refl, ◌↔◌, ◌⊎◌, List, [], ◌∷◌, Bool, true, false, not, cond, ◌&&◌, ◌||◌, eqb, ltb, leb}
use Rattle.std.proofs.Common.{sym, ap, subst, inl, inr, ⊎_elim, eqb-true, eq-eqb, ltb-true, lt-ltb, leb-true, le-leb}
use Rattle.std.proofs.Math.Logic.Iff
use mathlib.Core.List.Memᴰ
use Rattle.std.proofs.Math.Bool.{So, and-eq-true_iff}
use Rattle.std.proofs.lemmas.Bool.{false≢true}
use Rattle.std.proofs.Math.Option.{Option, some, none, none-ne-some}
use Rattle.calculus.specs.Named.{is_some, every, any_of, In}
use Rattle.calculus.specs.Declarations.{is_nil}

-- a failed test proves anything
pub never : {X : Type 0} → So false → X
never e = absurd (false≢true e)

-- the value of a test, with the equation
pub bool_cases : (b : Bool) → (b ≡ true) ⊎ (b ≡ false)
bool_cases true = inl refl
bool_cases false = inr refl

-- tests that pass together are equal
pub bool_ext : {a b : Bool} → (So a → So b) → (So b → So a) → a ≡ b
bool_ext {a = true} f g = sym (f refl)
bool_ext {a = false} {b = true} f g = g refl
bool_ext {a = false} {b = false} f g = refl

pub not_iff : (b : Bool) → So (not b) ↔ (b ≡ false)
not_iff true = (λ e. sym e, λ e. sym e)
not_iff false = (λ e. refl, λ e. refl)

-- a test that fails, where it says what it does when it passes
pub fails_iff : {A : Type 0} {b : Bool} → So b ↔ A → (b ≡ false) ↔ (¬ A)
fails_iff {b = true} f = (λ e. never (sym e), λ n. absurd (n (f.0 refl)))
fails_iff {b = false} f = (λ e a. never (f.1 a), λ n. refl)

pub no_iff : {A : Type 0} {b : Bool} → So b ↔ A → So (not b) ↔ (¬ A)
no_iff {b = b} f = Iff.trans (not_iff b) (fails_iff f)

-- a test that says no more than that it passes
pub itself : (b : Bool) → So b ↔ So b
itself b = Iff.rfl

-- two tests, each with what it says; infix where the two can be read off
pub and_iff : {A B : Type 0} (a b : Bool) → So a ↔ A → So b ↔ B → So (a && b) ↔ (A × B)
and_iff a b f g = Iff.trans (and-eq-true_iff a b) (Iff.and f g)

infixl 35 ◌and◌
pub ◌and◌ : {A B : Type 0} {a b : Bool} → So a ↔ A → So b ↔ B → So (a && b) ↔ (A × B)
◌and◌ {a = a} {b} = and_iff a b

infixl 30 ◌or◌
pub ◌or◌ : {A B : Type 0} {a b : Bool} → So a ↔ A → So b ↔ B → So (a || b) ↔ (A ⊎ B)
◌or◌ {a = true} f g = (λ e. inl (f.0 refl), λ h. refl)
◌or◌ {a = false} f g = (λ e. inr (g.0 e), ⊎_elim (λ h. never (f.1 h)) g.1)

-- the one or the other, and not both
pub one_of : {A B : Type 0} {a b : Bool} → So a ↔ A → So b ↔ B → So (cond a (not b) b) ↔ ((A × ¬ B) ⊎ (¬ A × B))
one_of {a = true} f g = (λ e. inl (f.0 refl, (no_iff g).0 e), ⊎_elim (λ h. (no_iff g).1 h.1) (λ h. absurd (h.0 (f.0 refl))))
one_of {a = false} f g = (λ e. inr ((fails_iff f).0 refl, g.0 e), ⊎_elim (λ h. never (f.1 h.0)) (λ h. g.1 h.1))

-- the same with `cond`, as `every` and `any_of` are written
pub and_cond : (a b : Bool) → So (cond a b false) ↔ (So a × So b)
and_cond true b = (λ e. (refl, e), λ h. h.1)
and_cond false b = (never, λ h. h.0)

pub unless_cond : (a b : Bool) → So (cond a false b) ↔ ((a ≡ false) × So b)
unless_cond true b = (never, λ h. sym h.0)
unless_cond false b = (λ e. (refl, e), λ h. h.1)

pub or_cond : (a b : Bool) → So (cond a true b) ↔ (So a ⊎ So b)
or_cond true b = (λ e. inl refl, λ h. refl)
or_cond false b = (λ e. inr e, ⊎_elim never (λ e. e))

pub cond_true : {X : Type 0} {b : Bool} (x y : X) → b ≡ true → cond b x y ≡ x
cond_true x y e = rw e

pub cond_false : {X : Type 0} {b : Bool} (x y : X) → b ≡ false → cond b x y ≡ y
cond_false x y e = rw e

pub eqb_iff : (m n : ℕ) → So (eqb m n) ↔ (m ≡ n)
eqb_iff m n = (eqb-true m n, eq-eqb m n)

pub ltb_iff : (m n : ℕ) → So (ltb m n) ↔ (m < n)
ltb_iff m n = (ltb-true m n, lt-ltb m n)

pub leb_iff : (m n : ℕ) → So (leb m n) ↔ (m ≤ n)
leb_iff m n = (leb-true m n, le-leb m n)

module _ {X : Type 0} where
  pub is_nil_iff : (l : List X) → So (is_nil l) ↔ (l ≡ [])
  is_nil_iff [] = (λ e. refl, λ e. refl)
  is_nil_iff (x ∷ l) = (never, λ e. ap is_nil e)

  pub is_some_iff : (o : Option X) → So (is_some o) ↔ ((x : X) × (o ≡ some x))
  is_some_iff none = (never, λ h. absurd (none-ne-some h.0 h.1))
  is_some_iff (some x) = (λ e. (x, refl), λ h. refl)

  pub is_none_iff : (o : Option X) → So (not (is_some o)) ↔ (o ≡ none)
  is_none_iff none = (λ e. refl, λ e. refl)
  is_none_iff (some x) = (never, λ e. absurd (none-ne-some x (sym e)))

  -- what holds of each element of a list with one more
  pub each_cons : (P : X → Type 0) (x : X) (l : List X) → (P x × ((y : X) → In y l → P y)) ↔ ((y : X) → In y (x ∷ l) → P y)
  each_cons P x l = (
    λ h y m. ⊎_elim (λ e. subst P (sym e) h.0) (h.1 y) (Memᴰ.cases_cons m),
    λ h. (h x (Memᴰ.head refl), λ y m. h y (Memᴰ.tail m)),
  )

  pub all_iff : (p : X → Bool) (l : List X) → So (every p l) ↔ ((x : X) → In x l → So (p x))
  all_iff p [] = (λ e x m. elim m [ ], λ h. refl)
  all_iff p (x ∷ l) = Iff.trans (and_cond (p x) (every p l)) (Iff.trans (Iff.and Iff.rfl (all_iff p l)) (each_cons (λ y. So (p y)) x l))

  -- a test of each element, with what it says of it
  pub each_iff : {p : X → Bool} {P : X → Type 0} → ((x : X) → So (p x) ↔ P x) → (l : List X) → So (every p l) ↔ ((x : X) → In x l → P x)
  each_iff {p = p} f l = Iff.trans (all_iff p l) (λ h x m. (f x).0 (h x m), λ h x m. (f x).1 (h x m))

  in_any : (p : X → Bool) {x : X} {l : List X} → In x l → So (p x) → So (any_of p l)
  in_any p (Memᴰ.head {x = y} {xs = l} h) e = (or_cond (p y) (any_of p l)).1 (inl (rw (← h) e))
  in_any p (Memᴰ.tail {x = y} {xs = l} m) e = (or_cond (p y) (any_of p l)).1 (inr (in_any p m e))

  any_in : (p : X → Bool) (l : List X) → So (any_of p l) → (x : X) × In x l × So (p x)
  any_in p [] e = never e
  any_in p (x ∷ l) e = ⊎_elim
      (λ h. (x, Memᴰ.head refl, h))
      (λ h. let r = any_in p l h in (r.0, Memᴰ.tail r.1, r.2))
      ((or_cond (p x) (any_of p l)).0 e)

  pub any_iff : (p : X → Bool) (l : List X) → So (any_of p l) ↔ ((x : X) × In x l × So (p x))
  any_iff p l = (any_in p l, λ h. in_any p h.1 h.2)
