-- Laws of lists by position.
use Rattle.std.specs.Prelude.{ℕ, zero, suc, ◌+◌, ◌≤◌, ◌<◌, List, [], ◌∷◌, ◌++◌, map, ◌≡◌, refl, length, set, take, drop}
use Rattle.std.proofs.Common.{sym, ap, ap₂, subst, ◌∙◌, arith, add-one, drop_of_length-le}
use Rattle.std.proofs.Math.ListN.{get_elem?}
use Rattle.std.proofs.Math.Option.{Option, some}
use Rattle.run_words.specs.Lists.{tab, insert_at, remove_at, All, scan}

module _ {A : Type 0} where
  pub length_tab : (f : ℕ → A) (n : ℕ) → length (tab f n) ≡ n
  length_tab f zero = refl
  length_tab f (suc n) = ap suc (length_tab (λ k. f (suc k)) n)

  pub at_tab : (f : ℕ → A) (n k : ℕ) → k < n → get_elem? (tab f n) k ≡ some (f k)
  at_tab f zero k h = absurd (omega arith)
  at_tab f (suc n) zero h = refl
  at_tab f (suc n) (suc k) h = at_tab (λ j. f (suc j)) n k (omega arith)

  -- what stands at a position
  pub below_length : (l : List A) (k : ℕ) {x : A} → get_elem? l k ≡ some x → k < length l
  below_length [] k e = let z : ◌≡◌ {A = ℕ} 0 1 = cc in absurd (omega arith)
  below_length (y ∷ l) zero e = omega arith
  below_length (y ∷ l) (suc k) e = omega (arith, below_length l k e)

  pub drop_at : (l : List A) (k : ℕ) {x : A} → get_elem? l k ≡ some x → drop k l ≡ x ∷ drop (suc k) l
  drop_at [] k e = let z : ◌≡◌ {A = ℕ} 0 1 = cc in absurd (omega arith)
  drop_at (y ∷ l) zero e = cc
  drop_at (y ∷ l) (suc k) e = drop_at l k e

  -- two functions that agree; one that changes, has one value more, or one less
  pub tab_same : (f g : ℕ → A) (n : ℕ) → ((k : ℕ) → k < n → f k ≡ g k) → tab f n ≡ tab g n
  tab_same f g zero h = refl
  tab_same f g (suc n) h = ap₂ {C = List A} (λ x l. x ∷ l) (h 0 (omega arith)) (tab_same (λ k. f (suc k)) (λ k. g (suc k)) n (λ k l. h (suc k) (omega arith)))

  pub tab_set : (f g : ℕ → A) (n k : ℕ) (x : A) → k < n → g k ≡ x → ((j : ℕ) → j < n → (j ≡ k → ⊥) → g j ≡ f j) → tab g n ≡ set (tab f n) k x
  tab_set f g zero k x h e o = absurd (omega arith)
  tab_set f g (suc n) zero x h e o = ap₂ {C = List A} (λ y l. y ∷ l) e (tab_same (λ j. g (suc j)) (λ j. f (suc j)) n (λ j l. o (suc j) (omega arith) (λ p. omega arith)))
  tab_set f g (suc n) (suc k) x h e o =
      ap₂ {C = List A} (λ y l. y ∷ l) (o 0 (omega arith) (λ p. omega arith))
      (tab_set (λ j. f (suc j)) (λ j. g (suc j)) n k x (omega arith) e (λ j l q. o (suc j) (omega arith) (λ p. q (omega arith))))

  pub tab_insert : (f g : ℕ → A) (n m k : ℕ) (x : A) → m ≡ suc n → k ≤ n → g k ≡ x → ((j : ℕ) → j < k → g j ≡ f j) → ((j : ℕ) → k ≤ j → j < n → g (suc j) ≡ f j) → tab g m ≡ insert_at k x (tab f n)
  tab_insert f g n m k x q h e lo hi = ap (tab g) q ∙ go f g n k h e lo hi
    where
      go : (f g : ℕ → A) (n k : ℕ) → k ≤ n → g k ≡ x → ((j : ℕ) → j < k → g j ≡ f j) → ((j : ℕ) → k ≤ j → j < n → g (suc j) ≡ f j) → tab g (suc n) ≡ insert_at k x (tab f n)
      go f g n zero h e lo hi = ap₂ {C = List A} (λ y l. y ∷ l) e (tab_same (λ j. g (suc j)) f n (λ j l. hi j (omega arith) l))
      go f g zero (suc k) h e lo hi = absurd (omega arith)
      go f g (suc n) (suc k) h e lo hi =
          ap₂ {C = List A} (λ y l. y ∷ l) (lo 0 (omega arith))
          (go (λ j. f (suc j)) (λ j. g (suc j)) n k (omega arith) e (λ j l. lo (suc j) (omega arith)) (λ j a b. hi (suc j) (omega arith) (omega arith)))

  pub tab_remove : (f g : ℕ → A) (n m k : ℕ) → n ≡ suc m → k < n → ((j : ℕ) → j < k → g j ≡ f j) → ((j : ℕ) → k ≤ j → j < m → g j ≡ f (suc j)) → tab g m ≡ remove_at k (tab f n)
  tab_remove f g n m k q h lo hi = go f g m k (omega arith) lo hi ∙ ap (λ o. remove_at k (tab f o)) (sym q)
    where
      go : (f g : ℕ → A) (m k : ℕ) → k ≤ m → ((j : ℕ) → j < k → g j ≡ f j) → ((j : ℕ) → k ≤ j → j < m → g j ≡ f (suc j)) → tab g m ≡ remove_at k (tab f (suc m))
      go f g m zero h lo hi = tab_same g (λ j. f (suc j)) m (λ j l. hi j (omega arith) l)
      go f g zero (suc k) h lo hi = absurd (omega arith)
      go f g (suc m) (suc k) h lo hi =
          ap₂ {C = List A} (λ y l. y ∷ l) (lo 0 (omega arith))
          (go (λ j. f (suc j)) (λ j. g (suc j)) m k (omega arith) (λ j l. lo (suc j) (omega arith)) (λ j a b. hi (suc j) (omega arith) (omega arith)))

  pub tab_append : (f g : ℕ → A) (n m : ℕ) (x : A) → m ≡ suc n → g n ≡ x → ((j : ℕ) → j < n → g j ≡ f j) → tab g m ≡ tab f n ++ (x ∷ [])
  tab_append f g n m x q e lo = ap (tab g) q ∙ go f g n e lo
    where
      go : (f g : ℕ → A) (n : ℕ) → g n ≡ x → ((j : ℕ) → j < n → g j ≡ f j) → tab g (suc n) ≡ tab f n ++ (x ∷ [])
      go f g zero e lo = ap {B = List A} (λ y. y ∷ []) e
      go f g (suc n) e lo = ap₂ {C = List A} (λ y l. y ∷ l) (lo 0 (omega arith)) (go (λ j. f (suc j)) (λ j. g (suc j)) n e (λ j l. lo (suc j) (omega arith)))

  pub length_insert : (k : ℕ) (x : A) (l : List A) → length (insert_at k x l) ≡ suc (length l)
  length_insert zero x l = refl
  length_insert (suc k) x [] = refl
  length_insert (suc k) x (y ∷ l) = ap suc (length_insert k x l)

  pub length_remove : (k : ℕ) (l : List A) → k < length l → suc (length (remove_at k l)) ≡ length l
  length_remove k [] h = absurd (omega arith)
  length_remove zero (y ∷ l) h = refl
  length_remove (suc k) (y ∷ l) h = ap suc (length_remove k l (omega arith))

  -- a property of every element, kept
  module _ (P : A → Type 0) where
    pub all_at : (l : List A) (k : ℕ) {x : A} → All P l → get_elem? l k ≡ some x → P x
    all_at [] k a e = let z : ◌≡◌ {A = ℕ} 0 1 = cc in absurd (omega arith)
    all_at (y ∷ l) zero {x} a e = let p : y ≡ x = cc in subst P p a.0
    all_at (y ∷ l) (suc k) a e = all_at l k a.1 e

    pub all_of : (l : List A) → ((k : ℕ) (x : A) → get_elem? l k ≡ some x → P x) → All P l
    all_of [] h = tt
    all_of (x ∷ l) h = (h 0 x refl, all_of l (λ k y e. h (suc k) y e))

    pub all_set : (l : List A) (k : ℕ) (x : A) → All P l → P x → All P (set l k x)
    all_set [] k x a p = tt
    all_set (y ∷ l) zero x a p = (p, a.1)
    all_set (y ∷ l) (suc k) x a p = (a.0, all_set l k x a.1 p)

    pub all_append : (l m : List A) → All P l → All P m → All P (l ++ m)
    all_append [] m a b = b
    all_append (x ∷ l) m a b = (a.0, all_append l m a.1 b)

    pub all_take : (k : ℕ) (l : List A) → All P l → All P (take k l)
    all_take zero l a = tt
    all_take (suc k) [] a = tt
    all_take (suc k) (x ∷ l) a = (a.0, all_take k l a.1)

    pub all_drop : (k : ℕ) (l : List A) → All P l → All P (drop k l)
    all_drop zero l a = a
    all_drop (suc k) [] a = tt
    all_drop (suc k) (x ∷ l) a = all_drop k l a.1

    pub all_insert : (k : ℕ) (x : A) (l : List A) → All P l → P x → All P (insert_at k x l)
    all_insert k x l a p = all_append (take k l) (x ∷ drop k l) (all_take k l a) (p, all_drop k l a)

    pub all_remove : (k : ℕ) (l : List A) → All P l → All P (remove_at k l)
    all_remove k l a = all_append (take k l) (drop (suc k) l) (all_take k l a) (all_drop (suc k) l a)

  -- a turn of a scan, and its end
  module _ {B : Type 0} (step : ℕ → A → B → B) (none : B) where
    pub scan_step : (l : List A) (i : ℕ) {x : A} → get_elem? l i ≡ some x → scan step none i (drop i l) ≡ step i x (scan step none (i + 1) (drop (i + 1) l))
    scan_step l i {x} e = ap (scan step none i) (drop_at l i e) ∙ ap (λ m. step i x (scan step none m (drop m l))) (sym (add-one i))

    pub scan_end : (l : List A) (i : ℕ) → length l ≤ i → scan step none i (drop i l) ≡ none
    scan_end l i h = ap (scan step none i) (drop_of_length-le l h)

-- what follows from another property, and under a map
pub all_map : {A B : Type 0} (P : A → Type 0) (Q : B → Type 0) (f : A → B) → ((x : A) → P x → Q (f x)) → (l : List A) → All P l → All Q (map f l)
all_map P Q f g [] a = tt
all_map P Q f g (x ∷ l) a = (g x a.0, all_map P Q f g l a.1)

pub all_weaken : {A : Type 0} (P Q : A → Type 0) → ((x : A) → P x → Q x) → (l : List A) → All P l → All Q l
all_weaken P Q g [] a = tt
all_weaken P Q g (x ∷ l) a = (g x a.0, all_weaken P Q g l a.1)

-- maps and positions
module _ {A B : Type 0} (f : A → B) where
  pub map_tab : (g : ℕ → A) (n : ℕ) → map f (tab g n) ≡ tab (λ k. f (g k)) n
  map_tab g zero = refl
  map_tab g (suc n) = ap {B = List B} (λ l. f (g 0) ∷ l) (map_tab (λ k. g (suc k)) n)

  pub map_at : (l : List A) (k : ℕ) {x : A} → get_elem? l k ≡ some x → get_elem? (map f l) k ≡ some (f x)
  map_at [] k e = let z : ◌≡◌ {A = ℕ} 0 1 = cc in absurd (omega arith)
  map_at (y ∷ l) zero {x} e = let p : y ≡ x = cc in ap {B = Option B} (λ z. some (f z)) p
  map_at (y ∷ l) (suc k) e = map_at l k e

  pub at_map : (l : List A) (k : ℕ) {y : B} → get_elem? (map f l) k ≡ some y → (x : A) × (get_elem? l k ≡ some x) × (f x ≡ y)
  at_map [] k e = let z : ◌≡◌ {A = ℕ} 0 1 = cc in absurd (omega arith)
  at_map (x ∷ l) zero {y} e = let p : f x ≡ y = cc in (x, refl, p)
  at_map (x ∷ l) (suc k) e = at_map l k e

  pub map_take : (k : ℕ) (l : List A) → map f (take k l) ≡ take k (map f l)
  map_take zero l = refl
  map_take (suc k) [] = refl
  map_take (suc k) (x ∷ l) = ap {B = List B} (λ m. f x ∷ m) (map_take k l)

  pub map_drop : (k : ℕ) (l : List A) → map f (drop k l) ≡ drop k (map f l)
  map_drop zero l = refl
  map_drop (suc k) [] = refl
  map_drop (suc k) (x ∷ l) = map_drop k l

  pub map_join : (l m : List A) → map f (l ++ m) ≡ map f l ++ map f m
  map_join [] m = refl
  map_join (x ∷ l) m = ap {B = List B} (λ r. f x ∷ r) (map_join l m)

  pub map_set : (l : List A) (k : ℕ) (x : A) → map f (set l k x) ≡ set (map f l) k (f x)
  map_set [] k x = refl
  map_set (y ∷ l) zero x = refl
  map_set (y ∷ l) (suc k) x = ap {B = List B} (λ m. f y ∷ m) (map_set l k x)

  pub map_insert : (k : ℕ) (x : A) (l : List A) → map f (insert_at k x l) ≡ insert_at k (f x) (map f l)
  map_insert k x l = map_join (take k l) (x ∷ drop k l) ∙ ap₂ {C = List B} (λ a b. a ++ (f x ∷ b)) (map_take k l) (map_drop k l)

  pub map_remove : (k : ℕ) (l : List A) → map f (remove_at k l) ≡ remove_at k (map f l)
  map_remove k l = map_join (take k l) (drop (suc k) l) ∙ ap₂ {C = List B} (λ a b. a ++ b) (map_take k l) (map_drop (suc k) l)
