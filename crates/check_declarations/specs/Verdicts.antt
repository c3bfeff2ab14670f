-- The four passes in their order.
use Rattle.std.specs.Prelude.{ℕ, ◌≡◌, refl, List}
use Rattle.std.proofs.Common.{sym, ◌∙◌, ap}
use Rattle.calculus.specs.Verdict.{fine, refused, and_then, faults, verdict_of}
use Rattle.calculus.specs.Verdict as calculus
use Rattle.std.specs.Prelude.{Ok, Err, IsErrAnd}
use Rattle.std.proofs.lemmas.Result.{err_from_is_err_and}
use Rattle.notation.specs.declared.refusal.Refusal.{Refusal}
use Rattle.notation.specs.Refusals.{OrRefusal}
use Rattle.check_declarations.specs.Lowest.{Lowest, least, Lowered, refused_at, faults_lowest}

-- r is what a pass says that finds the offsets xs
pub record Pass (n : ℕ) (xs : List ℕ) (r : OrRefusal (Unit {0})) : Type 0 where
  pub says : verdict_of r ≡ faults n xs

pub pass : {n : ℕ} {xs : List ℕ} {l : Lowest} {r : OrRefusal (Unit {0})} → Lowered least xs l → verdict_of r ≡ refused_at n l → Pass n xs r
pass {n} {xs} a e = record { says = e ∙ ap (refused_at n) a.is ∙ sym (faults_lowest n xs) }

module _ {n : ℕ} {xs : List ℕ} {r : OrRefusal (Unit {0})} (p : Pass n xs r) where
  is_as : (v : OrRefusal (Unit {0})) → r ≡ v → faults n xs ≡ verdict_of v
  is_as v q = sym p.says ∙ ap verdict_of q

  -- a pass that refuses ends it, and its refusal is handed on; one that does not goes on
  pub stops : {e : Refusal} → r ≡ Err e → (x : OrRefusal (Unit {0})) → IsErrAnd x (λ d. d ≡ e) → (y : calculus.Verdict) → verdict_of x ≡ and_then (faults n xs) y
  stops {e} q x h y =
      let (d, x_is, d_is) = err_from_is_err_and x h in
      rw (is_as (Err e) q, x_is, d_is) refl

  pub goes_on_lem : r ≡ (Ok tt) → {v y : calculus.Verdict} → v ≡ y → v ≡ and_then (faults n xs) y
  goes_on_lem q e = rw (is_as (Ok tt) q) e
