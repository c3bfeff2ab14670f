-- Tests of lists: under a map, and from a position on, as loops go through them.
use Prim.Native.Nat.{ℕ, zero, suc, ◌+◌, ◌≤◌}
use mathlib.Core.List.{List, [], ◌∷◌, map}
use Rattle.std.specs.Prelude.{◌≡◌, Bool, not, length, drop}
use Rattle.std.proofs.Math.Path.{refl, ap}
use Rattle.std.proofs.Common.{sym, ◌∙◌, add-one, drop_of_length-le}
use Rattle.std.proofs.Math.Bool.{true, false, cond}
use Rattle.std.proofs.Math.Option.{Option, some, none}
use Rattle.std.proofs.Math.ListN.{get_elem?}
use Rattle.calculus.specs.Named.{every, any_of}
use Rattle.theory_decision.specs.Lists.{all_from, pairwise}
use Rattle.run_words.specs.ListLaws.{drop_at}

-- ── under a map
module _ {X Y : Type 0} (g : X → Y) where
  pub all_map : (f : Y → Bool) (h : X → Bool) → ((x : X) → f (g x) ≡ h x) → (l : List X) → every f (map g l) ≡ every h l
  all_map f h e [] = refl
  all_map f h e (x ∷ l) = λ i. cond (e x i) (all_map f h e l i) false

  pub any_map : (f : Y → Bool) (h : X → Bool) → ((x : X) → f (g x) ≡ h x) → (l : List X) → any_of f (map g l) ≡ any_of h l
  any_map f h e [] = refl
  any_map f h e (x ∷ l) = λ i. cond (e x i) true (any_map f h e l i)

  pub all_from_map : (f : ℕ → Y → Bool) (h : ℕ → X → Bool) → ((k : ℕ) (x : X) → f k (g x) ≡ h k x) → (k : ℕ) (l : List X) → all_from f k (map g l) ≡ all_from h k l
  unfolding all_from
  all_from_map f h e k [] = refl
  all_from_map f h e k (x ∷ l) = λ i. cond (e k x i) (all_from_map f h e (suc k) l i) false

  pub pairwise_map : (f : Y → Y → Bool) (seen l : List X) → pairwise f (map g seen) (map g l) ≡ pairwise (λ x y. f (g x) (g y)) seen l
  unfolding pairwise
  pairwise_map f seen [] = refl
  pairwise_map f seen (x ∷ l) = λ i. cond (all_map (f (g x)) (λ y. f (g x) (g y)) (λ y. refl) seen i) (pairwise_map f (x ∷ seen) l i) false

module _ {X : Type 0} where
  -- a test that asks no place
  pub all_from_lem : (f : X → Bool) (k : ℕ) (l : List X) → every f l ≡ all_from (λ _. f) k l
  unfolding all_from
  all_from_lem f k [] = refl
  all_from_lem f k (x ∷ l) = ap (λ r. cond (f x) r false) (all_from_lem f (suc k) l)

  pub all_not : (f : X → Bool) (l : List X) → every (λ x. not (f x)) l ≡ not (any_of f l)
  all_not f [] = refl
  all_not f (x ∷ l) = go (f x) (all_not f l)
    where
      go : (t : Bool) → every (λ x. not (f x)) l ≡ not (any_of f l) → cond (not t) (every (λ x. not (f x)) l) false ≡ not (cond t true (any_of f l))
      go true e = refl
      go false e = e

  -- ── the elements before a position, the last one first
  abbrev put : Option X → List X → List X
  put none l = l
  put (some x) l = x ∷ l

  unfoldable pub before : ℕ → List X → List X
  before zero l = []
  before (suc k) l = put (get_elem? l k) (before k l)

  pub before_none : (l : List X) → before 0 l ≡ []
  unfolding before
  before_none l = refl

  pub before_more : (l : List X) (k n : ℕ) {x : X} → n ≡ suc k → get_elem? l k ≡ some x → before n l ≡ x ∷ before k l
  unfolding before
  before_more l k n p e = ap (λ (m : ℕ). before m l) p ∙ ap (λ o. put o (before k l)) e

  any_before : (f : X → Bool) (x : X) (l : List X) (k : ℕ) → any_of f (before (suc k) (x ∷ l)) ≡ cond (f x) true (any_of f (before k l))
  unfolding before
  any_before f x l zero = refl
  any_before f x l (suc k) = go (get_elem? l k) (any_before f x l k)
    where
      swap : (s t b : Bool) → cond s true (cond t true b) ≡ cond t true (cond s true b)
      swap true true b = refl
      swap true false b = refl
      swap false true b = refl
      swap false false b = refl

      go : (o : Option X) → any_of f (before (suc k) (x ∷ l)) ≡ cond (f x) true (any_of f (before k l)) → any_of f (put o (before (suc k) (x ∷ l))) ≡ cond (f x) true (any_of f (put o (before k l)))
      go none e = e
      go (some y) e = ap (cond (f y) true) e ∙ swap (f y) (f x) (any_of f (before k l))

  -- all of them
  pub any_whole : (f : X → Bool) (l : List X) → any_of f (before (length l) l) ≡ any_of f l
  any_whole f [] = ap (any_of f) (before_none [])
  any_whole f (x ∷ l) = any_before f x l (length l) ∙ ap (cond (f x) true) (any_whole f l)

  -- ── a turn of a loop
  module _ (f : X → Bool) (l : List X) (k n : ℕ) (p : n ≡ suc k) {x : X} (e : get_elem? l k ≡ some x) where
    pub any_here : f x ≡ true → any_of f (before n l) ≡ true
    any_here t = ap (any_of f) (before_more l k n p e) ∙ ap (λ b. cond b true (any_of f (before k l))) t

    pub any_on : f x ≡ false → any_of f (before n l) ≡ any_of f (before k l)
    any_on t = ap (any_of f) (before_more l k n p e) ∙ ap (λ b. cond b true (any_of f (before k l))) t

  -- a loop over a list has come to position i: what is left of the test
  pub record Each (f : ℕ → X → Bool) (l : List X) (i : ℕ) : Type 0 where
    pub rest : all_from f 0 l ≡ all_from f i (drop i l)

  pub record Pairs (f : X → X → Bool) (l : List X) (i : ℕ) : Type 0 where
    pub rest : pairwise f [] l ≡ pairwise f (before i l) (drop i l)

  pub each_start : {f : ℕ → X → Bool} {l : List X} → Each f l 0
  each_start = record { rest = refl }

  module _ {f : ℕ → X → Bool} {l : List X} {i : ℕ} where
    each_turn : {x : X} {t : Bool} → Each f l i → get_elem? l i ≡ some x → f i x ≡ t → all_from f 0 l ≡ cond t (all_from f (i + 1) (drop (i + 1) l)) false
    unfolding all_from
    each_turn {x} r e t =
        r.rest ∙ ap (all_from f i) (drop_at l i e)
        ∙ ap (λ m. cond (f i x) (all_from f m (drop m l)) false) (sym (add-one i))
        ∙ ap (λ b. cond b (all_from f (i + 1) (drop (i + 1) l)) false) t

    pub each_passed : {x : X} → Each f l i → get_elem? l i ≡ some x → f i x ≡ true → Each f l (i + 1)
    each_passed r e t = record { rest = each_turn r e t }

    pub each_failed : {x : X} → Each f l i → get_elem? l i ≡ some x → f i x ≡ false → all_from f 0 l ≡ false
    each_failed r e t = each_turn r e t

    pub each_end : Each f l i → length l ≤ i → all_from f 0 l ≡ true
    unfolding all_from
    each_end r h = r.rest ∙ ap (all_from f i) (drop_of_length-le l h)

  pub pairs_start : {f : X → X → Bool} {l : List X} → Pairs f l 0
  pairs_start {f} {l} = record { rest = ap (λ s. pairwise f s l) (sym (before_none l)) }

  module _ {f : X → X → Bool} {l : List X} {i : ℕ} where
    pairs_turn : {x : X} {t : Bool} → Pairs f l i → get_elem? l i ≡ some x → every (f x) (before i l) ≡ t
        → pairwise f [] l ≡ cond t (pairwise f (before (i + 1) l) (drop (i + 1) l)) false
    unfolding pairwise
    pairs_turn {x} r e t =
        r.rest ∙ ap (pairwise f (before i l)) (drop_at l i e)
        ∙ ap (λ s. cond (every (f x) (before i l)) (pairwise f s (drop (suc i) l)) false) (sym (before_more l i (suc i) refl e))
        ∙ ap (λ m. cond (every (f x) (before i l)) (pairwise f (before m l) (drop m l)) false) (sym (add-one i))
        ∙ ap (λ b. cond b (pairwise f (before (i + 1) l) (drop (i + 1) l)) false) t

    pub pairs_passed : {x : X} → Pairs f l i → get_elem? l i ≡ some x → every (f x) (before i l) ≡ true → Pairs f l (i + 1)
    pairs_passed r e t = record { rest = pairs_turn r e t }

    pub pairs_failed : {x : X} → Pairs f l i → get_elem? l i ≡ some x → every (f x) (before i l) ≡ false → pairwise f [] l ≡ false
    pairs_failed r e t = pairs_turn r e t

    pub pairs_end : Pairs f l i → length l ≤ i → pairwise f [] l ≡ true
    unfolding pairwise
    pairs_end r h = r.rest ∙ ap (pairwise f (before i l)) (drop_of_length-le l h)
