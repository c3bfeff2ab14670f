-- The classes of a comparison of trees that are numbered: each number's representative, one at most as great, and the number's state.
-- A number that is no longer its own representative waits once to be compared with its representative.
use Rattle.std.specs.Prelude.{◌≡◌, refl, List, [], ◌∷◌, Bool, cond, ℕ, zero, suc, ◌+◌, ◌<◌, ◌≤◌, eqb, length, get_or, set}
use Rattle.std.proofs.Common.{sym, ◌∙◌, ap, subst, arith, length-set, get_or-set_same, get_or-set_other, eq-eqb, ne_eqb}
use Rattle.std.proofs.Math.Decide.{ℕ_discrete, dec_lt}
use Rattle.std.proofs.Math.ListN.{get_or-eq_default}
use Rattle.trees.specs.Heads.{Head, Matching, Inside, matching_map, matching_refl, matching_sym, matching_trans, matching_inside}
use Rattle.trees.specs.Equal.{Equal, Closed, equal_refl, equal_sym, equal_trans, closed_equal}

-- states: its own representative; waits to be compared with its representative; was compared
abbrev pub own : ℕ
own = 2

abbrev pub waiting : ℕ
waiting = 1

abbrev pub done : ℕ
done = 0

abbrev pub at : List ℕ → ℕ → ℕ
at l i = get_or l i 0

-- the same representative: rep has the representatives by number, st the states
abbrev pub Near : List ℕ → ℕ → ℕ → Type 0
Near rep x y = at rep x ≡ at rep y

-- ── what is left to do: the sum of the states
unfoldable pub sum : List ℕ → ℕ
sum [] = 0
sum (x ∷ l) = x + sum l

sum_set : (l : List ℕ) (i v : ℕ) → i < length l → sum (set l i v) + at l i ≡ sum l + v
unfolding sum
sum_set [] i v h = absurd (omega arith)
sum_set (x ∷ l) zero v h = omega arith
sum_set (x ∷ l) (suc i) v h = let k = sum_set l i v (omega arith) in omega arith

-- ── two classes made one: the representative `hi` gives way to `lo`
unfoldable pub swap : ℕ → ℕ → ℕ → ℕ
swap hi lo v = cond (eqb v hi) lo v

pub swap_hit : (hi lo v : ℕ) → v ≡ hi → swap hi lo v ≡ lo
unfolding swap
swap_hit hi lo v e = rw (eq-eqb v hi e)

pub swap_miss : (hi lo v : ℕ) → (v ≡ hi → ⊥) → swap hi lo v ≡ v
unfolding swap
swap_miss hi lo v e = rw (ne_eqb v hi e)

swap_le : (hi lo v : ℕ) → lo < hi → swap hi lo v ≤ v
swap_le hi lo v l = go (ℕ_discrete v hi)
  where
    go : Dec (v ≡ hi) → swap hi lo v ≤ v
    go (yes e) = let p = swap_hit hi lo v e in omega arith
    go (no n) = let p = swap_miss hi lo v n in omega arith

module _ (size : ℕ) where
  pub record Relabelled (hi lo : ℕ) (rep rep' : List ℕ) : Type 0 where
    pub long : length rep' ≡ length rep
    pub is : (i : ℕ) → i < size → at rep' i ≡ swap hi lo (at rep i)

  -- the classes of x and y are one; the greater of their representatives waits
  pub data Joined (x y : ℕ) (rep st rep' st' : List ℕ) : Type 0 where
    already : at rep x ≡ at rep y → rep' ≡ rep → st' ≡ st → Joined x y rep st rep' st'
    first_low : at rep x < at rep y → Relabelled (at rep y) (at rep x) rep rep' → st' ≡ set st (at rep y) waiting → Joined x y rep st rep' st'
    second_low : at rep y < at rep x → Relabelled (at rep x) (at rep y) rep rep' → st' ≡ set st (at rep x) waiting → Joined x y rep st rep' st'

-- ── numbers below `size`, some of which are nodes: the head of a node has nodes below it
module _ {N : Type 0} (same : N → N → Bool) (size : ℕ) (head : ℕ → Head N ℕ) (Node : ℕ → Type 0) where
  -- what is known of the number i in the state s: its own representative; waiting; or matched with a smaller one of its class
  pub data Kept (rep : List ℕ) (i s : ℕ) : Type 0 where
    itself : s ≡ own → at rep i ≡ i → Kept rep i s
    waits : s ≡ waiting → at rep i < i → Node i → Kept rep i s
    matched : s ≡ done → at rep i < i → (j : ℕ) → j < i → Near rep j i → Matching same (Near rep) (head i) (head j) → Kept rep i s

  module _ (a b : ℕ) where
    -- the classes in a comparison of a with b: all that was joined is forced
    pub record Good (rep st : List ℕ) : Type 0 where
      pub long : length rep ≡ size
      pub states : length st ≡ size
      pub low : (i : ℕ) → i < size → at rep i ≤ i
      pub top : (i : ℕ) → i < size → at rep (at rep i) ≡ at rep i
      pub nodes : (i : ℕ) → Node i → Node (at rep i)
      pub forced : Equal same head a b → (i : ℕ) → i < size → Equal same head i (at rep i)
      pub kept : (i : ℕ) → i < size → Kept rep i (at st i)

    -- from one state of a comparison to a later one
    pub record On (rep st rep' st' : List ℕ) : Type 0 where
      pub good : Good rep' st'
      pub coarser : (x y : ℕ) → Near rep x y → Near rep' x y
      pub stays : (i : ℕ) → at st i ≡ waiting → at st' i ≡ waiting
      pub less : sum st' ≤ sum st

-- the same representative, of two nodes
abbrev pub Class : (ℕ → Type 0) → List ℕ → ℕ → ℕ → Type 0
Class Node rep x y = Node x × Node y × Near rep x y

module _ {N : Type 0} {same : N → N → Bool} {size : ℕ} {head : ℕ → Head N ℕ} {Node : ℕ → Type 0} {a b : ℕ} where
  pub on_refl : {rep st : List ℕ} → Good same size head Node a b rep st → On same size head Node a b rep st rep st
  on_refl g = record { good = g; coarser = λ x y e. e; stays = λ i e. e; less = omega arith }

  pub on_trans : {r s r' s' r'' s'' : List ℕ} → On same size head Node a b r s r' s' → On same size head Node a b r' s' r'' s'' → On same size head Node a b r s r'' s''
  on_trans p q = record {
    good = q.good;
    coarser = λ x y e. q.coarser x y (p.coarser x y e);
    stays = λ i e. q.stays i (p.stays i e);
    less = (let x = p.less in let y = q.less in omega arith);
  }

module _ {N : Type 0} {same : N → N → Bool} {size : ℕ} {head : ℕ → Head N ℕ} {Node : ℕ → Type 0} (small : (i : ℕ) → Node i → i < size) where
  -- ── at the start every number is its own representative
  pub start : (a b : ℕ) {rep st : List ℕ} → length rep ≡ size → length st ≡ size → ((i : ℕ) → i < size → at rep i ≡ i) → ((i : ℕ) → i < size → at st i ≡ own) → Good same size head Node a b rep st
  start a b {rep} {st} l m r s = record {
    long = l;
    states = m;
    low = λ i h. (let e = r i h in omega arith);
    top = λ i h. ap (at rep) (r i h);
    nodes = λ i n. subst Node (sym (r i (small i n))) n;
    forced = λ q i h. subst (Equal same head i) (sym (r i h)) (equal_refl same head i);
    kept = λ i h. itself (s i h) (r i h);
  }

  -- ── the representative hi gives way to lo
  module _ {a b : ℕ} {rep st : List ℕ} (g : Good same size head Node a b rep st) where
    module _ (hi lo : ℕ) (less : lo < hi) (hi_own : at rep hi ≡ hi) (lo_own : at rep lo ≡ lo) (hi_node : Node hi) (lo_node : Node lo) (needs : Equal same head a b → Equal same head hi lo) (rep' : List ℕ) (rel : Relabelled size hi lo rep rep') where
      high : hi < size
      high = small hi hi_node

      all_at : (i : ℕ) → at rep' i ≡ swap hi lo (at rep i)
      all_at i = go (dec_lt i size)
        where
          go : Dec (i < size) → at rep' i ≡ swap hi lo (at rep i)
          go (yes h) = rel.is i h
          go (no n) =
              let l = g.long in
              let l' = rel.long in
              let p : at rep i ≡ 0 = get_or-eq_default rep 0 (omega arith) in
              let q : at rep' i ≡ 0 = get_or-eq_default rep' 0 (omega arith) in
              q ∙ sym (ap (swap hi lo) p ∙ swap_miss hi lo 0 (λ e. omega arith))

      all_hit : (i : ℕ) → at rep i ≡ hi → at rep' i ≡ lo
      all_hit i e = all_at i ∙ swap_hit hi lo (at rep i) e

      all_miss : (i : ℕ) → (at rep i ≡ hi → ⊥) → at rep' i ≡ at rep i
      all_miss i n = all_at i ∙ swap_miss hi lo (at rep i) n

      lo_kept : at rep' lo ≡ lo
      lo_kept = all_miss lo (λ z. omega arith) ∙ lo_own

      lower : (i : ℕ) → at rep' i ≤ at rep i
      lower i = let p = all_at i in let q = swap_le hi lo (at rep i) less in omega arith

      nearer : (x y : ℕ) → Near rep x y → Near rep' x y
      nearer x y e = all_at x ∙ ap (swap hi lo) e ∙ sym (all_at y)

      top' : (i : ℕ) → i < size → at rep' (at rep' i) ≡ at rep' i
      top' i h = go (ℕ_discrete (at rep i) hi)
        where
          go : Dec (at rep i ≡ hi) → at rep' (at rep' i) ≡ at rep' i
          go (yes e) = ap (at rep') (all_hit i e) ∙ lo_kept ∙ sym (all_hit i e)
          go (no n) = ap (at rep') (all_miss i n) ∙ all_at (at rep i) ∙ ap (swap hi lo) (g.top i h) ∙ sym (all_at i)

      nodes' : (i : ℕ) → Node i → Node (at rep' i)
      nodes' i k = go (ℕ_discrete (at rep i) hi)
        where
          go : Dec (at rep i ≡ hi) → Node (at rep' i)
          go (yes e) = subst Node (sym (all_hit i e)) lo_node
          go (no n) = subst Node (sym (all_miss i n)) (g.nodes i k)

      forced' : Equal same head a b → (i : ℕ) → i < size → Equal same head i (at rep' i)
      forced' s i h = go (ℕ_discrete (at rep i) hi)
        where
          go : Dec (at rep i ≡ hi) → Equal same head i (at rep' i)
          go (yes e) =
              let q : Equal same head i hi = subst (Equal same head i) e (g.forced s i h) in
              subst (Equal same head i) (sym (all_hit i e)) (equal_trans same head q (needs s))
          go (no n) = subst (Equal same head i) (sym (all_miss i n)) (g.forced s i h)

      was_own : at st hi ≡ own
      was_own = go (g.kept hi high)
        where
          go : Kept same size head Node rep hi (at st hi) → at st hi ≡ own
          go (itself e p) = e
          go (waits e p n) = absurd (omega arith)
          go (matched e p j q n m) = absurd (omega arith)

      kept' : (i : ℕ) → i < size → Kept same size head Node rep' i (at (set st hi waiting) i)
      kept' i h = go (ℕ_discrete i hi)
        where
          keep : (s : ℕ) → (i ≡ hi → ⊥) → Kept same size head Node rep i s → Kept same size head Node rep' i s
          keep s n (itself e p) = itself e (all_miss i (λ z. n (sym p ∙ z)) ∙ p)
          keep s n (waits e p k) = waits e (let q = lower i in omega arith) k
          keep s n (matched e p j q m x) = matched e (let q = lower i in omega arith) j q (nearer j i m) (matching_map same nearer x)

          go : Dec (i ≡ hi) → Kept same size head Node rep' i (at (set st hi waiting) i)
          go (yes e) =
              let l = g.states in
              let p : at rep' i ≡ lo = all_hit i (ap (at rep) e ∙ hi_own) in
              waits (ap (at (set st hi waiting)) e ∙ get_or-set_same st hi waiting 0 (omega arith)) (omega arith) (subst Node (sym e) hi_node)
          go (no n) = keep (at (set st hi waiting) i) n (subst (Kept same size head Node rep i) (sym (get_or-set_other st hi i waiting 0 n)) (g.kept i h))

      merged : On same size head Node a b rep st rep' (set st hi waiting) × Near rep' hi lo
      merged = (
        record {
          good = record {
            long = rel.long ∙ g.long;
            states = length-set st hi waiting ∙ g.states;
            low = λ i h. (let p = lower i in let q = g.low i h in omega arith);
            top = top';
            nodes = nodes';
            forced = forced';
            kept = kept';
          };
          coarser = nearer;
          stays = λ i e. get_or-set_other st hi i waiting 0 (λ z. let t = was_own in let y : at st i ≡ at st hi = ap (at st) z in omega arith) ∙ e;
          less = (let t = was_own in let h = high in let l = g.states in let k = sum_set st hi waiting (omega arith) in omega arith);
        },
        all_hit hi hi_own ∙ sym lo_kept,
      )

    -- ── the classes of x and y made one
    module _ {x y : ℕ} (node_x : Node x) (node_y : Node y) (needs : Equal same head a b → Equal same head x y) where
      forced_tops : Equal same head a b → Equal same head (at rep x) (at rep y)
      forced_tops s =
          equal_trans same head (equal_sym same head (g.forced s x (small x node_x)))
          (equal_trans same head (needs s) (g.forced s y (small y node_y)))

      top_x : at rep (at rep x) ≡ at rep x
      top_x = g.top x (small x node_x)

      top_y : at rep (at rep y) ≡ at rep y
      top_y = g.top y (small y node_y)

      pub joined_on : {rep' st' : List ℕ} → Joined size x y rep st rep' st' → On same size head Node a b rep st rep' st' × Near rep' x y
      joined_on {rep'} {st'} (already e p q) = (
        subst (λ s. On same size head Node a b rep st rep' s) (sym q) (subst (λ r. On same size head Node a b rep st r st) (sym p) (on_refl g)),
        subst (λ r. Near r x y) (sym p) e,
      )
      joined_on {rep'} {st'} (first_low l r q) =
          let (o, n) = merged (at rep y) (at rep x) l top_y top_x (g.nodes y node_y) (g.nodes x node_x) (λ s. equal_sym same head (forced_tops s)) rep' r in
          (subst (On same size head Node a b rep st rep') (sym q) o, o.coarser x (at rep x) (sym top_x) ∙ sym n ∙ o.coarser (at rep y) y top_y)
      joined_on {rep'} {st'} (second_low l r q) =
          let (o, n) = merged (at rep x) (at rep y) l top_x top_y (g.nodes x node_x) (g.nodes y node_y) forced_tops rep' r in
          (subst (On same size head Node a b rep st rep') (sym q) o, o.coarser x (at rep x) (sym top_x) ∙ n ∙ o.coarser (at rep y) y top_y)

-- ── a waiting number
module _ {N : Type 0} {same : N → N → Bool} {size : ℕ} {head : ℕ → Head N ℕ} {Node : ℕ → Type 0} {a b i : ℕ} (h : i < size) where
  -- it is a node, and greater than its representative
  pub waits_node : {rep st : List ℕ} → Good same size head Node a b rep st → at st i ≡ waiting → (at rep i < i) × Node i
  waits_node {rep} {st} g e = go (g.kept i h)
    where
      go : Kept same size head Node rep i (at st i) → (at rep i < i) × Node i
      go (itself f p) = absurd (omega arith)
      go (waits f p n) = (p, n)
      go (matched f p j q n x) = absurd (omega arith)

  -- where its head matches its representative's, it is done
  module _ {rep st rep' st' : List ℕ} (g : Good same size head Node a b rep st) (e : at st i ≡ waiting) (o : On same size head Node a b rep st rep' st') (m : Matching same (Near rep') (head i) (head (at rep i))) where
    kept'' : (k : ℕ) → k < size → Kept same size head Node rep' k (at (set st' i done) k)
    kept'' k z = go (ℕ_discrete k i)
      where
        go : Dec (k ≡ i) → Kept same size head Node rep' k (at (set st' i done) k)
        go (yes q) =
            let l = o.good.states in
            subst (λ k. Kept same size head Node rep' k (at (set st' i done) k)) (sym q)
            (matched (get_or-set_same st' i done 0 (omega arith)) (waits_node o.good (o.stays i e)).0 (at rep i) (waits_node g e).0 (o.coarser (at rep i) i (g.top i h)) m)
        go (no n) = subst (Kept same size head Node rep' k) (sym (get_or-set_other st' i k done 0 n)) (o.good.kept k z)

    pub turned : Good same size head Node a b rep' (set st' i done) × (sum (set st' i done) < sum st)
    turned = (
      record {
        long = o.good.long;
        states = length-set st' i done ∙ o.good.states;
        low = o.good.low;
        top = o.good.top;
        nodes = o.good.nodes;
        forced = o.good.forced;
        kept = kept'';
      },
      (let l = o.good.states in let k = sum_set st' i done (omega arith) in let p = o.stays i e in let x = o.less in omega arith),
    )

-- ── at the end no number waits, and the classes are a closed relation
module _ {N : Type 0} {same : N → N → Bool} {size : ℕ} {head : ℕ → Head N ℕ} {Node : ℕ → Type 0} (small : (i : ℕ) → Node i → i < size) (whole : (i : ℕ) → Node i → Inside same Node (head i))
    {a b : ℕ} {rep st : List ℕ} (g : Good same size head Node a b rep st) (none : (i : ℕ) → i < size → at st i ≡ waiting → ⊥) where
  settled : (n i : ℕ) → i < n → i < size → Matching same (Near rep) (head i) (head (at rep i))
  settled zero i l h = absurd (omega arith)
  settled (suc n) i l h = go (at st i) refl (g.kept i h) (settled n)
    where
      go : (s : ℕ) → at st i ≡ s → Kept same size head Node rep i s → ((j : ℕ) → j < n → j < size → Matching same (Near rep) (head j) (head (at rep j))) → Matching same (Near rep) (head i) (head (at rep i))
      go s z (itself e p) f = subst (λ k. Matching same (Near rep) (head i) (head k)) (sym p) (matching_refl same (λ x. refl) (head i))
      go s z (waits e p k) f = absurd (none i h (z ∙ e))
      go s z (matched e p j q m x) f =
          subst (λ k. Matching same (Near rep) (head i) (head k)) m
          (matching_trans same (λ u v t c d. c ∙ d) x (f j (omega arith) (omega arith)))

  class_closed : Closed same head (Class Node rep)
  class_closed x y r =
      let p = settled size x (small x r.0) (small x r.0) in
      let q : Matching same (Near rep) (head (at rep x)) (head y) = subst (λ k. Matching same (Near rep) (head k) (head y)) (sym r.2) (matching_sym same (λ u v c. sym c) (settled size y (small y r.1) (small y r.1))) in
      matching_inside same (whole x r.0) (whole y r.1) (matching_trans same (λ u v t c d. c ∙ d) p q)

  pub ended : Node a → Node b → Near rep a b → Equal same head a b
  ended p q n = closed_equal same head class_closed (p, q, n)
