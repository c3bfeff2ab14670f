-- What a test keeps of a list is what holds of its names, where the test is exact.
use Rattle.std.specs.Prelude.{◌≡◌, ◌↔◌, Bool, cond}
use Rattle.std.proofs.Math.Path.{refl, ap}
use Rattle.std.proofs.Common.{◌∙◌, subst}
use mathlib.Core.List.{List, [], ◌∷◌}
use Rattle.std.proofs.Math.Bool.{true, false, So}
use Rattle.notation.specs.Tree.{Name}
use Rattle.calculus.specs.Named.{kept, Kept, of_none, keeping, leaving}
use Rattle.theory_derivations.specs.Booleans.{cond_true, cond_false, fails_iff}

module _ {X : Type 0} {t : Name → Bool} {M : Name → Type 0} (exact : (n : Name) → So (t n) ↔ M n) where
  kept_holds : (l : List (Name × X)) → Kept M l (kept t l)
  unfolding kept
  kept_holds [] = of_none
  kept_holds (e ∷ l) = go (t e.0) refl (kept_holds l)
    where
      go : (b : Bool) → t e.0 ≡ b → Kept M l (kept t l) → Kept M (e ∷ l) (cond b (e ∷ kept t l) (kept t l))
      go true h r = keeping ((exact e.0).0 h) r
      go false h r = leaving ((fails_iff (exact e.0)).0 h) r

  holds_kept : {l k : List (Name × X)} → Kept M l k → kept t l ≡ k
  unfolding kept
  holds_kept of_none = refl
  holds_kept (keeping {e} {l} m r) = cond_true (e ∷ kept t l) (kept t l) ((exact e.0).1 m) ∙ ap (λ k. e ∷ k) (holds_kept r)
  holds_kept (leaving {e} {l} m r) = cond_false (e ∷ kept t l) (kept t l) ((fails_iff (exact e.0)).1 m) ∙ holds_kept r

  pub kept_iff : (l k : List (Name × X)) → (kept t l ≡ k) ↔ Kept M l k
  kept_iff l k = (λ e. subst (Kept M l) e (kept_holds l), λ r. holds_kept r)
