-- Whether joints close a circle, by joining labels.
use Rattle.std.specs.Prelude.{ℕ, ◌≡◌, refl, ◌↔◌, ◌⊎◌, ◌≢◌, List, [], ◌∷◌, map, Bool, true, false, cond, eqb}
use Rattle.std.proofs.Common.{sym, ◌∙◌, ap, subst, inl, inr}
use Rattle.std.proofs.Math.Logic.Iff
use mathlib.Core.List.Memᴰ
use Rattle.std.proofs.Math.Bool.{So}
use Rattle.calculus.specs.Forest.{Joint, Forest}
use Rattle.calculus.specs.Named.{In}
use Rattle.theory_graphs.specs.Graph.{connected_refl, glue, glue_at, glue_off, glued, contract, expand}
use Rattle.theory_derivations.specs.Booleans.{unless_cond, cond_true, cond_false}
use Rattle.theory_derivations.specs.Equality.{eqb_decides, decides_cases, decides_not}

-- the label b becomes a
unfoldable pub relabelled : ℕ → ℕ → (ℕ → ℕ) → ℕ → ℕ
relabelled a b label x = cond (eqb (label x) b) a (label x)

-- the labels of a joint's places become one
abbrev pub joined : Joint → (ℕ → ℕ) → ℕ → ℕ
joined j label = relabelled (label j.0) (label j.1) label

-- a joint whose places have one label closes a circle; any other joins their labels
unfoldable pub joins : (ℕ → ℕ) → List Joint → Bool
joins label [] = true
joins label (j ∷ J) = let r = joins (joined j label) J in cond (eqb (label j.0) (label j.1)) false r

-- each place starts with its own label
unfoldable pub forest? : List Joint → Bool
forest? J = joins (λ x. x) J

relabelled_glue : (a b : ℕ) (label : ℕ → ℕ) (x : ℕ) → glue a b (label x) ≡ relabelled a b label x
unfolding relabelled
relabelled_glue a b label x = go (decides_cases eqb_decides (label x) b)
  where
    go : (So (eqb (label x) b) × (label x ≡ b)) ⊎ ((eqb (label x) b ≡ false) × (label x ≢ b)) → glue a b (label x) ≡ relabelled a b label x
    go (inl h) = glue_at a b (label x) h.1 ∙ sym (cond_true a (label x) h.0)
    go (inr h) = glue_off a b (label x) h.1 ∙ sym (cond_false a (label x) h.0)

-- the joints of labels
abbrev labels : (ℕ → ℕ) → List Joint → List Joint
labels label = map (λ (j : Joint). (label j.0, label j.1))

labels_glued : (a b : ℕ) (label : ℕ → ℕ) (J : List Joint) → glued a b (labels label J) ≡ labels (relabelled a b label) J
labels_glued a b label [] = refl
labels_glued a b label (j ∷ J) = λ i. (relabelled_glue a b label j.0 i, relabelled_glue a b label j.1 i) ∷ labels_glued a b label J i

along : {A : Type 0} (P : A → Type 0) {a b : A} → a ≡ b → P a ↔ P b
along P e = (subst P e, subst P (sym e))

-- THE law of forests, both ways
forest_cons : (p q : ℕ) (J : List Joint) → ((p ≢ q) × Forest (glued p q J)) ↔ Forest ((p, q) ∷ J)
forest_cons p q J = (λ h. expand p q h.0 J h.1, λ f. (λ e. f.1 (connected_refl J e), contract p q J f))

joins_iff : (J : List Joint) (label : ℕ → ℕ) → So (joins label J) ↔ Forest (labels label J)
unfolding joins
joins_iff [] label = (λ e. tt, λ h. refl)
joins_iff (j ∷ J) label =
    let a = label j.0 in
    let b = label j.1 in
    let l = Iff.trans (joins_iff J (joined j label)) (along Forest (sym (labels_glued a b label J))) in
    Iff.trans (unless_cond (eqb a b) (joins (joined j label) J)) (Iff.trans (Iff.and (decides_not eqb_decides a b) l) (forest_cons a b (labels label J)))

labels_self : (J : List Joint) → labels (λ x. x) J ≡ J
labels_self [] = refl
labels_self (j ∷ J) = ap (λ K. j ∷ K) (labels_self J)

pub forest?_iff : (J : List Joint) → So (forest? J) ↔ Forest J
unfolding forest?
forest?_iff J = Iff.trans (joins_iff J (λ x. x)) (along Forest (labels_self J))

-- only the labels of places that are joined matter
abbrev pub AgreeOn : List Joint → (ℕ → ℕ) → (ℕ → ℕ) → Type 0
AgreeOn J f g = (j : Joint) → In j J → (f j.0 ≡ g j.0) × (f j.1 ≡ g j.1)

pub joins_agree : (J : List Joint) (f g : ℕ → ℕ) → AgreeOn J f g → joins f J ≡ joins g J
unfolding joins relabelled
joins_agree [] f g h = refl
joins_agree (j ∷ J) f g h = λ i. cond (eqb (first.0 i) (first.1 i)) false (joins_agree J (joined j f) (joined j g) later i)
  where
    first : (f j.0 ≡ g j.0) × (f j.1 ≡ g j.1)
    first = h j (Memᴰ.head refl)

    joined_agree : (x : ℕ) → f x ≡ g x → joined j f x ≡ joined j g x
    joined_agree x e = λ i. cond (eqb (e i) (first.1 i)) (first.0 i) (e i)

    later : AgreeOn J (joined j f) (joined j g)
    later k m = let e = h k (Memᴰ.tail m) in (joined_agree k.0 e.0, joined_agree k.1 e.1)
