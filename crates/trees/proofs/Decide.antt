-- The test of equality over a finite list of trees: depth first, over the pairs that are not assumed yet.
-- Each visit takes its pair away, so the number of pairs is fuel enough.
use Rattle.std.specs.Prelude.{◌≡◌, ◌↔◌, List, [], ◌∷◌, Bool, true, false, ℕ, zero, suc, ◌≤◌, length}
use Rattle.std.proofs.Math.Path.{refl}
use Rattle.std.proofs.Common.{sym, subst, true≢false, arith}
use Rattle.trees.specs.Heads.{Head, Matching, Inside, matching_map, matching_inside}
use Rattle.trees.specs.Equal.{Equal, closed_equal}
use Rattle.trees.proofs.Equal.{equal_closed}
use Rattle.trees.specs.Listed.{Listed, in?, without, without_not, without_in, in_without, without_le, without_less, square, in_square}
use Rattle.trees.specs.Asked.{All, Asked, clash, asks}
use Rattle.trees.proofs.Asked.{asked}

abbrev pub pair_dec : {A B : Type 0} {a c : A} {b d : B} → Dec (a ≡ c) → Dec (b ≡ d) → Dec (◌≡◌ {A = A × B} (a, b) (c, d))
pair_dec (yes e) (yes f) = yes (λ i. (e i, f i))
pair_dec (yes e) (no g) = no (λ h. g (λ i. (h i).1))
pair_dec (no g) f = no (λ h. g (λ i. (h i).0))

module _ {N : Type 0} (same : N → N → Bool) (exact : (l m : N) → same l m ≡ true → l ≡ m) (itself : (l : N) → same l l ≡ true) {X : Type 0} (dec : (x y : X) → Dec (x ≡ y)) (head : X → Head N X) where
  abbrev pub dec_pair : (p q : X × X) → Dec (p ≡ q)
  dec_pair p q = pair_dec (dec p.0 q.0) (dec p.1 q.1)

  abbrev pub Out : List (X × X) → X → X → Type 0
  Out rest x y = Listed (x, y) rest → ⊥

  -- the pairs ps were visited: what is left of the pairs not assumed, and that whatever was taken away matches, were all that was taken away equal
  pub record Done (left ps : List (X × X)) : Type 0 where
    pub rest : List (X × X)
    pub shorter : length rest ≤ length left
    pub within : (p : X × X) → Listed p rest → Listed p left
    pub met : All (Out rest) ps
    pub closed : (x y : X) → Listed (x, y) left → Out rest x y → Matching same (Out rest) (head x) (head y)

  -- some pair of ps is unequal, or all were visited
  pub data Outcome (left ps : List (X × X)) : Type 0 where
    differ : (All (Equal same head) ps → ⊥) → Outcome left ps
    done : Done left ps → Outcome left ps

  pub none_in : (l : List (X × X)) → length l ≤ 0 → (p : X × X) → Listed p l → ⊥
  none_in [] h p i = i
  none_in (q ∷ l) h p i = omega arith

  -- a pair that is assumed already
  unfoldable pub unvisited : (left : List (X × X)) (a b : X) → Out left a b → Done left ((a, b) ∷ [])
  unvisited left a b n = record { rest = left; shorter = omega arith; within = λ p i. i; met = (n, tt); closed = λ x y i m. absurd (m i) }

  -- both visits, one after the other
  unfoldable pub then_done : (left : List (X × X)) (p : X × X) (ps : List (X × X)) (d : Done left (p ∷ [])) → Done d.rest ps → Done left (p ∷ ps)
  then_done left p ps d e = record {
    rest = e.rest;
    shorter = (let x = d.shorter in let y = e.shorter in omega arith);
    within = λ q i. d.within q (e.within q i);
    met = (λ i. d.met.0 (e.within p i), e.met);
    closed = λ x y i n. go x y i n (in? dec_pair (x, y) d.rest);
  }
    where
      go : (x y : X) → Listed (x, y) left → Out e.rest x y → Dec (Listed (x, y) d.rest) → Matching same (Out e.rest) (head x) (head y)
      go x y i n (yes j) = e.closed x y j n
      go x y i n (no m) = matching_map same (λ u v k j. k (e.within (u, v) j)) (d.closed x y i m)

  -- a visit of any pair, while at most n are not assumed
  abbrev pub Visit : ℕ → Type 0
  Visit n = (left : List (X × X)) → length left ≤ n → (a b : X) → Outcome left ((a, b) ∷ [])

  -- a list of pairs, one after the other
  unfoldable pub visit_all : (n : ℕ) → Visit n → (ps : List (X × X)) (left : List (X × X)) → length left ≤ n → Outcome left ps
  visit_all n f [] left h = done (record { rest = left; shorter = omega arith; within = λ p i. i; met = tt; closed = λ x y i m. absurd (m i) })
  visit_all n f (p ∷ ps) left h = first (f left h p.0 p.1) (visit_all n f ps)
    where
      second : (d : Done left (p ∷ [])) → Outcome d.rest ps → Outcome left (p ∷ ps)
      second d (differ e) = differ (λ x. e x.1)
      second d (done e) = done (then_done left p ps d e)

      first : Outcome left (p ∷ []) → ((l : List (X × X)) → length l ≤ n → Outcome l ps) → Outcome left (p ∷ ps)
      first (differ d) k = differ (λ x. d (x.0, tt))
      first (done d) k = second d (k d.rest (let y = d.shorter in omega arith))

  -- a pair that is still left is taken away, and its parts are visited
  unfoldable pub visited : (left : List (X × X)) (a b : X) (ps : List (X × X)) → ((R : X → X → Type 0) → All R ps → Matching same R (head a) (head b)) → Done (without dec_pair (a, b) left) ps → Done left ((a, b) ∷ [])
  visited left a b ps to d = record {
    rest = d.rest;
    shorter = (let x = d.shorter in let y = without_le dec_pair (a, b) left in omega arith);
    within = λ p i. without_in dec_pair (a, b) p left (d.within p i);
    met = (λ i. without_not dec_pair (a, b) left (d.within (a, b) i), tt);
    closed = λ x y i n. go x y i n (dec_pair (x, y) (a, b));
  }
    where
      go : (x y : X) → Listed (x, y) left → Out d.rest x y → Dec (◌≡◌ {A = X × X} (x, y) (a, b)) → Matching same (Out d.rest) (head x) (head y)
      go x y i n (yes e) = subst (λ p. Matching same (Out d.rest) (head p.0) (head p.1)) (sym e) (to (Out d.rest) d.met)
      go x y i n (no m) = d.closed x y (in_without dec_pair (a, b) (x, y) left m i) n

  module _ (left : List (X × X)) (a b : X) where
    unfoldable pub parts : (ps : List (X × X)) → ((R : X → X → Type 0) → All R ps → Matching same R (head a) (head b)) → ((R : X → X → Type 0) → Matching same R (head a) (head b) → All R ps) → Outcome (without dec_pair (a, b) left) ps → Outcome left ((a, b) ∷ [])
    parts ps to from (differ d) = differ (λ e. d (from (Equal same head) (equal_closed same head a b e.0)))
    parts ps to from (done d) = done (visited left a b ps to d)

    unfoldable pub look : Asked same exact (head a) (head b) → ((ps : List (X × X)) → Outcome (without dec_pair (a, b) left) ps) → Outcome left ((a, b) ∷ [])
    look (clash c) f = differ (λ e. c (Equal same head) (equal_closed same head a b e.0))
    look (asks ps to from) f = parts ps to from (f ps)

    unfoldable pub turn : Dec (Listed (a, b) left) → (Listed (a, b) left → (ps : List (X × X)) → Outcome (without dec_pair (a, b) left) ps) → Outcome left ((a, b) ∷ [])
    turn (yes i) f = look (asked same exact itself (head a) (head b)) (f i)
    turn (no n) f = done (unvisited left a b n)

  unfoldable pub visit : (n : ℕ) → Visit n
  visit zero left h a b = done (unvisited left a b (none_in left h (a, b)))
  visit (suc n) left h a b = turn left a b (in? dec_pair (a, b) left) (λ i ps. visit_all n (visit n) ps (without dec_pair (a, b) left) (let k = without_less dec_pair (a, b) left i in omega arith))

  -- ── the test, over the trees of a list
  abbrev pub agreed : {left ps : List (X × X)} → Outcome left ps → Bool
  agreed (differ d) = false
  agreed (done d) = true

  unfoldable pub compared : (trees : List X) (a b : X) → Outcome (square trees trees) ((a, b) ∷ [])
  compared trees a b = visit (length (square trees trees)) (square trees trees) (omega arith) a b

  unfoldable pub equal? : List X → X → X → Bool
  equal? trees a b = agreed (compared trees a b)

  -- it is exact for trees of a list that their heads do not leave
  module _ (trees : List X) (whole : (x : X) → Listed x trees → Inside same (λ y. Listed y trees) (head x)) where
    pub equal_iff : (a b : X) → Listed a trees → Listed b trees → (equal? trees a b ≡ true) ↔ Equal same head a b
    unfolding equal?
    equal_iff a b i j = go (compared trees a b)
      where
        go : (o : Outcome (square trees trees) ((a, b) ∷ [])) → (agreed o ≡ true) ↔ Equal same head a b
        go (differ d) = (λ e. absurd (true≢false (sym e)), λ e. absurd (d (e, tt)))
        go (done d) = (
          λ _. closed_equal same head {R = λ x y. Listed x trees × Listed y trees × Out d.rest x y} (λ x y r. matching_inside same (whole x r.0) (whole y r.1) (d.closed x y (in_square x y trees trees r.0 r.1) r.2)) (i, j, d.met.0),
          λ _. refl,
        )
