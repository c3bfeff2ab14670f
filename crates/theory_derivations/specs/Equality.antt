-- The tests for equal names and sides decide equality.
use Rattle.std.specs.Prelude.{ℕ, ◌≡◌, refl, ◌↔◌, ◌≢◌, ◌⊎◌, List, Bool, false, eqb}
use Rattle.std.proofs.Common.{sym, ◌∙◌, ap, subst, ⊎_elim, true≢false}
use Rattle.std.proofs.Math.Logic.{⊎_map}
use Rattle.std.proofs.Math.Bool.{So}
use Rattle.notation.specs.Bytes.{same}
use Rattle.notation.specs.Tree.{Name, Ty, unit, named, tensor, par, lolli, plus, with}
use Rattle.calculus.specs.Types.{Side, provided, used, same_side, shape, at_leaf}
use Rattle.calculus.specs.SameType.{same_sound, same_refl}
use Rattle.theory_derivations.specs.Booleans.{never, bool_cases, bool_ext, eqb_iff}

-- ── a test that passes exactly for equal things
pub record Decides {A : Type 0} (test : A → A → Bool) : Type 0 where
  pub sound : (a b : A) → So (test a b) → a ≡ b
  pub self : (a : A) → So (test a a)

module _ {A : Type 0} {test : A → A → Bool} (d : Decides test) where
  pub decides_iff : (a b : A) → So (test a b) ↔ (a ≡ b)
  decides_iff a b = (d.sound a b, λ e. subst (λ c. So (test a c)) e (d.self a))

  pub decides_not : (a b : A) → (test a b ≡ false) ↔ (a ≢ b)
  decides_not a b = (
    λ e h. true≢false (sym ((decides_iff a b).1 h) ∙ e),
    λ n. ⊎_elim (λ e. absurd (n (d.sound a b e))) (λ e. e) (bool_cases (test a b)),
  )

  pub decides_cases : (a b : A) → (So (test a b) × (a ≡ b)) ⊎ ((test a b ≡ false) × (a ≢ b))
  decides_cases a b = ⊎_map (λ e. (e, (decides_iff a b).0 e)) (λ e. (e, (decides_not a b).0 e)) (bool_cases (test a b))

  pub decides_sym : (a b : A) → test a b ≡ test b a
  decides_sym a b = bool_ext (λ e. (decides_iff b a).1 (sym (d.sound a b e))) (λ e. (decides_iff a b).1 (sym (d.sound b a e)))

-- ── numbers
pub eqb_decides : Decides eqb
eqb_decides = record { sound = λ m n. (eqb_iff m n).0; self = λ n. (eqb_iff n n).1 refl }

-- ── names
pub same_decides : Decides same
same_decides = record { sound = same_sound; self = same_refl }

pub same_iff : (a b : List ℕ) → So (same a b) ↔ (a ≡ b)
same_iff = decides_iff same_decides

pub same_cases : (a b : List ℕ) → (So (same a b) × (a ≡ b)) ⊎ ((same a b ≡ false) × (a ≢ b))
same_cases = decides_cases same_decides

-- ── sides
same_side_sound : (s r : Side) → So (same_side s r) → s ≡ r
same_side_sound provided provided e = refl
same_side_sound provided used e = never e
same_side_sound used provided e = never e
same_side_sound used used e = refl

same_side_refl : (s : Side) → So (same_side s s)
same_side_refl provided = refl
same_side_refl used = refl

pub same_side_decides : Decides same_side
same_side_decides = record { sound = same_side_sound; self = same_side_refl }

pub same_side_iff : (s r : Side) → So (same_side s r) ↔ (s ≡ r)
same_side_iff = decides_iff same_side_decides

-- ── the type that closes
pub at_leaf_iff : (A : Ty Name) → So (at_leaf (shape A)) ↔ (A ≡ unit)
at_leaf_iff A = (go A, λ e. ap (λ B. at_leaf (shape B)) e)
  where
    go : (A : Ty Name) → So (at_leaf (shape A)) → A ≡ unit
    go unit e = refl
    go (named n) e = never e
    go (tensor A B) e = never e
    go (par A B) e = never e
    go (lolli A B) e = never e
    go (plus r) e = never e
    go (with r) e = never e
