-- Types as the numbers of their nodes. A name's node stands for that of its definition, so that two names of one definition are one number.
use Prim.Native.Nat.{ℕ, zero, suc, ◌+◌, ◌-◌, ◌<◌, ◌≤◌}
use Rattle.std.specs.Prelude.{Option, Some, None}
use Rattle.std.specs.Prelude.{◌≡◌, List, [], ◌∷◌, Bool, cond, ltb}
use Rattle.std.proofs.Math.Path.{refl, sym, ap}
use Rattle.std.proofs.Common.{◌∙◌}
use Rattle.std.proofs.Math.Bool.{true, false}
use native.Mathlib.Omega.{arith}
use Rattle.std.proofs.Math.Dec.{eqb}
use borrow.Author.Tests.{eq-eqb, ne_eqb, lt-ltb, le-ltb, eqb-true}
use Rattle.trees.specs.Heads.{Head, leaf, word, pair, choice}
use Rattle.notation.specs.Token.{name_at}
use Rattle.notation.specs.Tree.{Name}
use Rattle.notation.specs.declared.reading.TypeNode.{TypeNode}
use Rattle.read_tables.specs.declared.access.Labelled.{Labelled}
use Rattle.read_tables.specs.Access.{AlternativeOf}
use Rattle.read_tables.specs.Decode.{node_at, alternative_at, type_at, tally_in}
use Rattle.read_tables.specs.Program.{named_type}
use Rattle.read_tables.specs.Search.{first_named}

-- ── the number that a number stands for: that of the first declaration of its name, else itself
abbrev pub declared_or : List ℕ → ℕ → Option ℕ → ℕ
declared_or w i (Some j) = (type_at w j).1
declared_or w i None = i

abbrev pub number_by : List ℕ → List ℕ → ℕ → TypeNode → ℕ
number_by s w i n = cond (eqb n.kind 1) (declared_or w i (first_named (name_at s n.second) (named_type s w) 0 (tally_in w).types)) i

unfoldable pub number_for : List ℕ → List ℕ → ℕ → ℕ
number_for s w i = number_by s w i (node_at w i)

-- ── the head of a node: the numbers in it are those that its parts stand for
-- the labels of the n alternatives before the place e
unfoldable pub rows_in : List ℕ → List ℕ → ℕ → ℕ → List (Name × ℕ)
rows_in s w e zero = []
rows_in s w e (suc n) = (name_at s ((alternative_at w (e - 1)).0 + 1), number_for s w (alternative_at w (e - 1)).1) ∷ rows_in s w (e - 1) n

-- by the node's kind
unfoldable pub node_head : List ℕ → List ℕ → TypeNode → Head Name ℕ
node_head s w n = cond (eqb n.kind 0) leaf (cond (eqb n.kind 1) (word (name_at s n.second)) (cond (ltb n.kind 5) (pair n.kind (number_for s w n.first) (number_for s w n.second)) (choice n.kind (rows_in s w n.first n.second))))

abbrev pub head_in : List ℕ → List ℕ → ℕ → Head Name ℕ
head_in s w i = node_head s w (node_at w i)

-- the kind of node that a head is of
abbrev pub mark_of : {X : Type 0} → Head Name X → ℕ
mark_of leaf = 0
mark_of (word n) = 1
mark_of (pair k a b) = k
mark_of (choice k r) = k

-- ── laws
module _ (s w : List ℕ) where
  -- the first of the labels that are left
  pub first_row : (e n : ℕ) → (n ≡ 0 → ⊥) → (a : Labelled) → AlternativeOf w e a → rows_in s w e n ≡ (name_at s (a.at + 1), number_for s w a.number) ∷ rows_in s w (e - 1) (n - 1)
  unfolding rows_in
  first_row e zero h a o = absurd (h refl)
  first_row e (suc n) h a o =
      let m : n ≡ suc n - 1 = omega arith in
      λ j. (name_at s (sym o.holds.at j + 1), number_for s w (sym o.holds.number j)) ∷ rows_in s w (e - 1) (m j)

  pub no_rows : (e n : ℕ) → n ≡ 0 → rows_in s w e n ≡ []
  unfolding rows_in
  no_rows e n z = rw z refl

  module _ (i : ℕ) (n : TypeNode) (o : n ≡ node_at w i) where
    number_by_lem : number_by s w i n ≡ number_for s w i
    unfolding number_for
    number_by_lem = ap (number_by s w i) o

    pub number_itself : (n.kind ≡ 1 → ⊥) → i ≡ number_for s w i
    number_itself z =
        let x = first_named (name_at s n.second) (named_type s w) 0 (tally_in w).types in
        ap (λ b. cond b (declared_or w i x) i) (sym (ne_eqb n.kind 1 z)) ∙ number_by_lem

    pub number_named : n.kind ≡ 1 → (r : Option ℕ) → r ≡ first_named (name_at s n.second) (named_type s w) 0 (tally_in w).types → declared_or w i r ≡ number_for s w i
    number_named z r e =
        let x = first_named (name_at s n.second) (named_type s w) 0 (tally_in w).types in
        ap (declared_or w i) e ∙ ap (λ b. cond b (declared_or w i x) i) (sym (eq-eqb n.kind 1 z)) ∙ number_by_lem

  -- ── the head of a node, at a known kind
  module _ (n : TypeNode) where
    pub by_leaf : n.kind ≡ 0 → node_head s w n ≡ leaf
    unfolding node_head
    by_leaf z = rw (eq-eqb n.kind 0 z)

    pub by_word : n.kind ≡ 1 → node_head s w n ≡ word (name_at s n.second)
    unfolding node_head
    by_word z = rw (ne_eqb n.kind 0 (λ y. omega arith), eq-eqb n.kind 1 z)

    pub by_pair : (n.kind ≡ 0 → ⊥) → (n.kind ≡ 1 → ⊥) → n.kind < 5 → node_head s w n ≡ pair n.kind (number_for s w n.first) (number_for s w n.second)
    unfolding node_head
    by_pair a b z = rw (ne_eqb n.kind 0 a, ne_eqb n.kind 1 b, lt-ltb n.kind 5 z)

    pub by_choice : 5 ≤ n.kind → node_head s w n ≡ choice n.kind (rows_in s w n.first n.second)
    unfolding node_head
    by_choice z = rw (ne_eqb n.kind 0 (λ y. omega arith), ne_eqb n.kind 1 (λ y. omega arith), le-ltb n.kind 5 z)

    -- the mark of a head is the node's kind
    pub kind_by : mark_of (node_head s w n) ≡ n.kind
    unfolding node_head
    kind_by = go (eqb n.kind 0) (eqb n.kind 1) (ltb n.kind 5) refl refl
      where
        go : (a b c : Bool) → eqb n.kind 0 ≡ a → eqb n.kind 1 ≡ b → mark_of (cond a leaf (cond b (word (name_at s n.second)) (cond c (pair n.kind (number_for s w n.first) (number_for s w n.second)) (choice n.kind (rows_in s w n.first n.second))))) ≡ n.kind
        go true b c e f = sym (eqb-true n.kind 0 e)
        go false true c e f = sym (eqb-true n.kind 1 f)
        go false false true e f = refl
        go false false false e f = refl
