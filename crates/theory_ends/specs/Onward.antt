-- An end moves on from its own type: where it is known, what is left of it is known.
use Rattle.std.specs.Prelude.{ℕ, ◌≡◌, refl, List, [], ◌∷◌, Bool, true, false, cond, eqb}
use Rattle.std.proofs.Common.{sym, ◌∙◌, ap}
use Rattle.std.proofs.Math.Option.{some, some-injective, none-ne-some}
use Rattle.notation.specs.Bytes.{same}
use Rattle.notation.specs.Tree.{Name}
use Rattle.calculus.specs.Named.{lookup, changed}
use Rattle.calculus.specs.Program.{Program}
use Rattle.calculus.specs.Configuration.{End, Outside, changed_outside, outside_of, retyped_end, retyped_outside}
use Rattle.calculus.specs.Steps.{Message, after_message, onward, outside_onward}

-- a thing changed by its name is changed by what is found there
pub changed_found : {X : Type 0} (c : Name) (f g : X → X) (l : List (Name × X)) {x : X} → lookup c l ≡ some x → f x ≡ g x → changed c f l ≡ changed c g l
unfolding lookup changed
changed_found c f g [] {x} e h = absurd (none-ne-some x e)
changed_found c f g (a ∷ l) {x} e h = go (same c a.0) e (λ z. changed_found c f g l z h)
  where
    go : (b : Bool) → cond b (some a.1) (lookup c l) ≡ some x → (lookup c l ≡ some x → changed c f l ≡ changed c g l)
        → cond b ((a.0, f a.1) ∷ l) (a ∷ changed c f l) ≡ cond b ((a.0, g a.1) ∷ l) (a ∷ changed c g l)
    go true z r = let y : a.1 ≡ x = some-injective a.1 x z in ap (λ r. (a.0, r) ∷ l) (ap f y ∙ h ∙ sym (ap g y))
    go false z r = ap (λ t. a ∷ t) (r z)

outside_found : (k : ℕ) (f g : Outside → Outside) (l : List Outside) {o : Outside} → outside_of k l ≡ some o → f o ≡ g o → changed_outside k f l ≡ changed_outside k g l
unfolding outside_of changed_outside
outside_found k f g [] {o} e h = absurd (none-ne-some o e)
outside_found k f g (a ∷ l) {o} e h = go (eqb k a.channel) e (λ z. outside_found k f g l z h)
  where
    go : (b : Bool) → cond b (some a) (outside_of k l) ≡ some o → (outside_of k l ≡ some o → changed_outside k f l ≡ changed_outside k g l)
        → cond b (f a ∷ l) (a ∷ changed_outside k f l) ≡ cond b (g a ∷ l) (a ∷ changed_outside k g l)
    go true z r = let y : a ≡ o = some-injective a o z in ap (λ r. r ∷ l) (ap f y ∙ h ∙ sym (ap g y))
    go false z r = ap (λ t. a ∷ t) (r z)

module _ (p : Program) (m : Message) where
  pub onward_is : (c : Name) (l : List (Name × End)) {e : End} → lookup c l ≡ some e → onward p m c l ≡ retyped_end c (after_message p m e.type) l
  onward_is c l z = changed_found c _ _ l z refl

  pub outside_onward_is : (k : ℕ) (l : List Outside) {o : Outside} → outside_of k l ≡ some o → outside_onward p m k l ≡ retyped_outside k (after_message p m o.type) l
  outside_onward_is k l z = outside_found k _ _ l z refl
