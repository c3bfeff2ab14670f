-- The head of a tree: what stands at its root, and the trees below.
-- Trees are any things X with a head for each; labels are any things N with a test for sameness.
use Rattle.std.specs.Prelude.{◌≡◌, refl, List, [], ◌∷◌, Bool, cond, ℕ}
use Rattle.std.proofs.Math.Option.{Option, some, none}
use Rattle.trees.specs.Both.{Both, neither, both, both_map, both_refl, both_sym, both_trans}

-- nothing below; a word, with nothing below; two trees below a mark; or a tree below each label of a mark
pub data Head (N X : Type 0) : Type 0 where
  leaf : Head N X
  word : N → Head N X
  pair : ℕ → X → X → Head N X
  choice : ℕ → List (N × X) → Head N X

module _ {N : Type 0} (same : N → N → Bool) where
  -- where a label leads
  unfoldable pub labelled : {X : Type 0} → N → List (N × X) → Option X
  labelled l [] = none
  labelled l (p ∷ r) = cond (same l p.0) (some p.1) (labelled l r)

  -- heads with one mark and related trees below; each label leads, on both sides, to related trees or nowhere
  pub data Matching {X Y : Type 0} (R : X → Y → Type 0) : Head N X → Head N Y → Type 0 where
    leaves : Matching R leaf leaf
    words : {n : N} → Matching R (word n) (word n)
    pairs : {k : ℕ} {a b : X} {c d : Y} → R a c → R b d → Matching R (pair k a b) (pair k c d)
    choices : {k : ℕ} {r : List (N × X)} {q : List (N × Y)} → ((l : N) → Both R (labelled l r) (labelled l q)) → Matching R (choice k r) (choice k q)

  -- the trees below a head have a property
  abbrev pub Inside : {X : Type 0} → (X → Type 0) → Head N X → Type 0
  Inside P leaf = Unit
  Inside P (word n) = Unit
  Inside P (pair k a b) = P a × P b
  Inside {X} P (choice k r) = (l : N) (x : X) → labelled l r ≡ some x → P x

  -- ── laws
  module _ {X Y : Type 0} {R : X → Y → Type 0} where
    pub matching_map : {S : X → Y → Type 0} → ((x : X) (y : Y) → R x y → S x y) → {h : Head N X} {g : Head N Y} → Matching R h g → Matching S h g
    matching_map f leaves = leaves
    matching_map f words = words
    matching_map f (pairs a b) = pairs (f _ _ a) (f _ _ b)
    matching_map f (choices e) = choices (λ l. both_map f (e l))

    pub pair_parts : {k m : ℕ} {a b : X} {c d : Y} → Matching R (pair k a b) (pair m c d) → (k ≡ m) × R a c × R b d
    pair_parts (pairs x y) = (refl, x, y)

    pub choice_parts : {k m : ℕ} {r : List (N × X)} {q : List (N × Y)} → Matching R (choice k r) (choice m q) → (k ≡ m) × ((l : N) → Both R (labelled l r) (labelled l q))
    choice_parts (choices e) = (refl, e)

    pub word_parts : {n m : N} → Matching R (word n) (word m) → n ≡ m
    word_parts words = refl

  module _ {X : Type 0} {R : X → X → Type 0} where
    pub matching_refl : ((x : X) → R x x) → (h : Head N X) → Matching R h h
    matching_refl f leaf = leaves
    matching_refl f (word n) = words
    matching_refl f (pair k a b) = pairs (f a) (f b)
    matching_refl f (choice k r) = choices (λ l. both_refl f (labelled l r))

    module _ {P : X → Type 0} where
      both_inside : {o p : Option X} → ((x : X) → o ≡ some x → P x) → ((y : X) → p ≡ some y → P y) → Both R o p → Both (λ x y. P x × P y × R x y) o p
      both_inside f g neither = neither
      both_inside f g (both r) = both (f _ refl, g _ refl, r)

      pub matching_inside : {h g : Head N X} → Inside P h → Inside P g → Matching R h g → Matching (λ x y. P x × P y × R x y) h g
      matching_inside i j leaves = leaves
      matching_inside i j words = words
      matching_inside i j (pairs a b) = pairs (i.0, j.0, a) (i.1, j.1, b)
      matching_inside i j (choices e) = choices (λ l. both_inside (i l) (j l) (e l))

  pub matching_sym : {X Y : Type 0} {R : X → Y → Type 0} {S : Y → X → Type 0} → ((x : X) (y : Y) → R x y → S y x) → {h : Head N X} {g : Head N Y} → Matching R h g → Matching S g h
  matching_sym f leaves = leaves
  matching_sym f words = words
  matching_sym f (pairs a b) = pairs (f _ _ a) (f _ _ b)
  matching_sym f (choices e) = choices (λ l. both_sym f (e l))

  pub matching_trans : {X Y Z : Type 0} {R : X → Y → Type 0} {S : Y → Z → Type 0} {T : X → Z → Type 0}
      → ((x : X) (y : Y) (z : Z) → R x y → S y z → T x z) → {h : Head N X} {g : Head N Y} {i : Head N Z} → Matching R h g → Matching S g i → Matching T h i
  matching_trans f leaves leaves = leaves
  matching_trans f words words = words
  matching_trans f (pairs a b) (pairs c d) = pairs (f _ _ _ a c) (f _ _ _ b d)
  matching_trans f (choices e) (choices g) = choices (λ l. both_trans f (e l) (g l))
