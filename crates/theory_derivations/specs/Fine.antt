-- When the check of a process is fine: one law for each combinator of verdicts.
use Rattle.std.specs.Prelude.{ℕ, ◌≡◌, refl, ◌↔◌, Bool, true, false}
use Rattle.std.proofs.Common.{sym, subst}
use Rattle.std.proofs.Math.Bool.{So}
use Rattle.std.proofs.Math.Option.{Option, some, none, some-injective, none-ne-some}
use Rattle.calculus.specs.Verdict.{Verdict, fine, refused, and_then, demand, having}
use Rattle.theory_derivations.specs.Booleans.{never}

abbrev IsFine : Verdict → Type 0
IsFine fine = Unit {0}
IsFine (refused n at) = ⊥

-- a refusal is not fine
pub refuted : {X : Type 0} {n at : ℕ} → refused n at ≡ fine → X
refuted e = absurd (subst IsFine (sym e) tt)

pub fine_law : (fine ≡ fine) ↔ Unit {0}
fine_law = (λ _. tt, λ _. refl)

pub then_law : {A B : Type 0} {u v : Verdict} → (u ≡ fine) ↔ A → (v ≡ fine) ↔ B → (and_then u v ≡ fine) ↔ (A × B)
then_law {u = fine} f g = (λ e. (f.0 refl, g.0 e), λ h. g.1 h.1)
then_law {u = refused n at} f g = (refuted, λ h. f.1 h.0)

pub demand_law : {A B : Type 0} (n at : ℕ) {b : Bool} {v : Verdict} → So b ↔ A → (v ≡ fine) ↔ B → (demand n at b v ≡ fine) ↔ (A × B)
demand_law n at {b = true} f g = (λ e. (f.0 refl, g.0 e), λ h. g.1 h.1)
demand_law n at {b = false} f g = (refuted, λ h. never (f.1 h.0))

pub having_law : {X : Type 0} {B : X → Type 0} (n at : ℕ) (o : Option X) {k : X → Verdict}
    → ((x : X) → (k x ≡ fine) ↔ B x) → (having n at o k ≡ fine) ↔ ((x : X) × (o ≡ some x) × B x)
having_law n at none f = (refuted, λ h. absurd (none-ne-some h.0 h.1))
having_law {B = B} n at (some x) f = (λ e. (x, refl, (f x).0 e), λ h. (f x).1 (subst B (sym (some-injective x h.0 h.1)) h.2))
