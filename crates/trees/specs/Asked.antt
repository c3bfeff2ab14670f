-- What two heads ask for: nothing makes them match, or exactly these pairs of trees below them, once related, do.
use Rattle.std.specs.Prelude.{◌≡◌, ◌⊎◌, Bool, cond, ℕ, eqb}
use Rattle.std.proofs.Math.Path.{refl}
use Rattle.std.proofs.Common.{eqb-true}
use Rattle.std.proofs.Math.Logic.{inl, inr}
use mathlib.Core.List.{List, [], ◌∷◌, ◌++◌}
use Rattle.std.proofs.Math.Option.{Option, some, none}
use Rattle.std.proofs.Math.Bool.{true, false}
use Rattle.std.proofs.lemmas.Bool.{eqb-false}
use Rattle.trees.specs.Both.{Both, neither, both, both_some, here_only, there_only}
use Rattle.trees.specs.Heads.{Head, labelled, Matching, pairs}
use Rattle.trees.specs.Listed.{Listed, in_left, in_right}

abbrev pub same_mark? : (k m : ℕ) (t : Bool) → eqb k m ≡ t → Dec (k ≡ m)
same_mark? k m true e = yes (eqb-true k m e)
same_mark? k m false e = no (eqb-false k m e)

-- R relates each of the pairs
abbrev pub All : {X : Type 0} → (X → X → Type 0) → List (X × X) → Type 0
All R [] = Unit
All R (p ∷ ps) = R p.0 p.1 × All R ps

module _ {N : Type 0} (same : N → N → Bool) (exact : (l m : N) → same l m ≡ true → l ≡ m) where
  abbrev pub labels_of : {X : Type 0} → List (N × X) → List N
  labels_of [] = []
  labels_of (p ∷ r) = p.0 ∷ labels_of r

  -- a label of the list, or one that leads nowhere
  pub leads_or_nowhere : {X : Type 0} (l : N) (r : List (N × X)) → Listed l (labels_of r) ⊎ (labelled same l r ≡ none)
  unfolding labelled
  leads_or_nowhere l [] = inr refl
  leads_or_nowhere l (p ∷ r) = go (same l p.0) refl (leads_or_nowhere l r)
    where
      go : (t : Bool) → same l p.0 ≡ t → Listed l (labels_of r) ⊎ (labelled same l r ≡ none) → Listed l (p.0 ∷ labels_of r) ⊎ (cond t (some p.1) (labelled same l r) ≡ none)
      go true e i = inl (inl (exact l p.0 e))
      go false e (inl i) = inl (inr i)
      go false e (inr n) = inr n

  module _ {X : Type 0} where
    -- the heads h and g clash, or ask for pairs
    pub data Asked (h g : Head N X) : Type 1 where
      clash : ((R : X → X → Type 0) → Matching same R h g → ⊥) → Asked h g
      asks : (ps : List (X × X)) → ((R : X → X → Type 0) → All R ps → Matching same R h g) → ((R : X → X → Type 0) → Matching same R h g → All R ps) → Asked h g

    -- the same of the labels ls in two lists
    pub data Met (ls : List N) (r q : List (N × X)) : Type 1 where
      apart : ((R : X → X → Type 0) → ((l : N) → Both R (labelled same l r) (labelled same l q)) → ⊥) → Met ls r q
      met : (ps : List (X × X)) → ((R : X → X → Type 0) → All R ps → (l : N) → Listed l ls → Both R (labelled same l r) (labelled same l q)) → ((R : X → X → Type 0) → ((l : N) → Both R (labelled same l r) (labelled same l q)) → All R ps) → Met ls r q

    module _ (r q : List (N × X)) where
      -- the label l beside those of ls
      unfoldable pub one_more : (l : N) (ls : List N) (o p : Option X) → labelled same l r ≡ o → labelled same l q ≡ p → Met ls r q → Met (l ∷ ls) r q
      one_more l ls o p d e (apart f) = apart f
      one_more l ls none none d e (met ps f g) = met ps (λ R a k i. elim i [ inl z ↦ rw (z, d, e) neither | inr j ↦ f R a k j ]) g
      one_more l ls none (some y) d e (met ps f g) = apart (λ R a. there_only (rw (d, e) at (a l)))
      one_more l ls (some x) none d e (met ps f g) = apart (λ R a. here_only (rw (d, e) at (a l)))
      one_more l ls (some x) (some y) d e (met ps f g) = met ((x, y) ∷ ps) (λ R a k i. elim i [ inl z ↦ rw (z, d, e) (both a.0) | inr j ↦ f R a.1 k j ]) (λ R a. (both_some (rw (d, e) at (a l)), g R a))

      unfoldable pub meet : (ls : List N) → Met ls r q
      meet [] = met [] (λ R a l i. absurd i) (λ R a. tt)
      meet (l ∷ ls) = one_more l ls (labelled same l r) (labelled same l q) refl refl (meet ls)

    -- the labels of both lists are all that matter
    pub whole : (r q : List (N × X)) {R : X → X → Type 0} → ((l : N) → Listed l (labels_of r ++ labels_of q) → Both R (labelled same l r) (labelled same l q)) → (l : N) → Both R (labelled same l r) (labelled same l q)
    whole r q {R} f l = go (leads_or_nowhere l r) (leads_or_nowhere l q)
      where
        go : Listed l (labels_of r) ⊎ (labelled same l r ≡ none) → Listed l (labels_of q) ⊎ (labelled same l q ≡ none) → Both R (labelled same l r) (labelled same l q)
        go (inl i) e = f l (in_left l (labels_of r) (labels_of q) i)
        go (inr d) (inl i) = f l (in_right l (labels_of r) (labels_of q) i)
        go (inr d) (inr e) = rw (d, e) neither
