-- Nodes are equal exactly when the trees are that they stand for.
use Prim.Native.Nat.{ℕ, zero, suc, ◌+◌, ◌-◌, ◌<◌, ◌≤◌}
use Rattle.std.specs.Prelude.{Option, Some, None}
use Rattle.std.specs.Prelude.{◌≡◌, refl, ◌↔◌, List, Bool, cond, eqb}
use Rattle.std.proofs.Common.{◌∙◌, subst, arith, eqb-true}
use Rattle.std.proofs.Math.Bool.{true, false}
use Rattle.std.proofs.Math.Option.{some}
use Rattle.std.proofs.lemmas.Bool.{eqb-false}
use Rattle.trees.specs.Both.{Both, neither, both, both_here}
use Rattle.trees.specs.Heads.{Head, labelled, Matching, leaves, words, pairs, choices, Inside}
use Rattle.trees.specs.Equal.{Equal, equal_means}
use Rattle.notation.specs.Bytes.{same}
use Rattle.notation.specs.Token.{name_at}
use Rattle.notation.specs.Tree.{Name, Ty, plains}
use Rattle.notation.specs.declared.reading.TypeNode.{TypeNode}
use Rattle.calculus.specs.Types.{Shape, shape, unfolded}
use Rattle.calculus.specs.SameType.{rows, head_by, head_of}
use Rattle.read_tables.specs.declared.access.Labelled.{Labelled}
use Rattle.read_tables.specs.Access.{NodeOf, node_of, type_of}
use Rattle.read_tables.specs.Decode.{node_at, alternative_at, type_at, tally_in}
use Rattle.read_tables.specs.Program.{plain_in, program_in, named_type, types_in}
use Rattle.read_tables.specs.Roots.{TypeIn, AlternativesIn, alternatives_in, first_alternative}
use Rattle.read_tables.specs.Search.{first_named, Sought, sought_first}
use Rattle.read_tables.specs.Whole.{Tables}
use Rattle.check_types.specs.Shapes.{ShapeIn, is_leaf, is_word, is_pair, is_choice_lem, shape_in, pair_in, choice_in}
use Rattle.check_types.specs.Numbers.{rows_in, node_head, number_for, head_in, by_leaf, by_word, by_pair, by_choice}
use Rattle.check_types.specs.Acting.{StandsFor, stands_itself, stands_declared, stands_undeclared}

-- the trees below one of two matching heads
module _ {N X Y : Type 0} (test : N → N → Bool) {R : X → Y → Type 0} {P : X → Type 0} (f : (x : X) (y : Y) → R x y → P x) where
  pub inside_first : {h : Head N X} {g : Head N Y} → Matching test R h g → Inside test P h
  inside_first leaves = tt
  inside_first words = tt
  inside_first (pairs a b) = (f _ _ a, f _ _ b)
  inside_first (choices e) = λ l x z. (let b = both_here (rw z at (e l)) in f x b.0 b.2)

module _ (s w : List ℕ) where
  abbrev types : List (Name × Ty Name)
  types = (program_in s w).types

  -- the node i is what the tree A stands for
  abbrev pub Means : ℕ → Ty Name → Type 0
  Means i A = TypeIn s w i × (plain_in s w i ≡ unfolded types A)

  pub stands_means : {i p : ℕ} → StandsFor s w i p → Means p (plain_in s w i)
  stands_means f = (f.type, f.is)

  module _ (t : Tables s w) where
    -- ── what a number stands for
    module _ (i : ℕ) (a : TypeIn s w i) where
      abbrev name : Name
      name = name_at s (node_at w i).second

      node : NodeOf w i (node_at w i)
      node = node_of w i (node_at w i) refl

      sought : Sought name types (named_type s w) (tally_in w).types (first_named name (named_type s w) 0 (tally_in w).types)
      sought = sought_first name types (named_type s w) (tally_in w).types (types_in s w)

      stands : (r : ℕ) × StandsFor s w i r
      stands = go (eqb (node_at w i).kind 1) refl
        where
          found : (r : Option ℕ) → first_named name (named_type s w) 0 (tally_in w).types ≡ r → (node_at w i).kind ≡ 1 → (r : ℕ) × StandsFor s w i r
          found (Some j) e k =
              let d : Labelled = record { at = (type_at w j).0; number = (type_at w j).1 } in
              (d.number, stands_declared w i (node_at w i) node s t a k sought j d e (type_of w j d (record { at = refl; number = refl })))
          found None e k = (i, stands_undeclared w i (node_at w i) node s t a k sought e)

          go : (b : Bool) → eqb (node_at w i).kind 1 ≡ b → (r : ℕ) × StandsFor s w i r
          go true e = found (first_named name (named_type s w) 0 (tally_in w).types) refl (eqb-true (node_at w i).kind 1 e)
          go false e = (i, stands_itself w i (node_at w i) node s t a (eqb-false (node_at w i).kind 1 e))

      pub number_means : Means (number_for s w i) (plain_in s w i)
      number_means = subst (λ r. Means r (plain_in s w i)) stands.1.number (stands_means stands.1)

    -- ── heads of nodes and of the trees there
    -- a label leads to what stands for the tree that it leads to
    rows_mean : (l : Name) (e n : ℕ) → AlternativesIn s w e n → Both Means (labelled same l (rows_in s w e n)) (labelled same l (rows (plains (alternatives_in s w e n))))
    unfolding rows_in labelled plains
    rows_mean l e zero a = neither
    rows_mean l e (suc n) a =
        let f = first_alternative s w e n a in
        go (same l (name_at s ((alternative_at w (e - 1)).0 + 1))) f.type (rows_mean l (e - 1) n f.rest)
      where
        go : (b : Bool) → TypeIn s w (alternative_at w (e - 1)).1 → Both Means (labelled same l (rows_in s w (e - 1) n)) (labelled same l (rows (plains (alternatives_in s w (e - 1) n)))) → Both Means (cond b (some (number_for s w (alternative_at w (e - 1)).1)) (labelled same l (rows_in s w (e - 1) n))) (cond b (some (plain_in s w (alternative_at w (e - 1)).1)) (labelled same l (rows (plains (alternatives_in s w (e - 1) n)))))
        go true u m = both (number_means (alternative_at w (e - 1)).1 u)
        go false u m = m

    shape_mean : (n : TypeNode) (u : Shape) → ShapeIn s w n n.kind u → Matching same Means (node_head s w n) (head_by u)
    shape_mean n u x = go n.kind u refl x
      where
        go : (k : ℕ) (u : Shape) → n.kind ≡ k → ShapeIn s w n k u → Matching same Means (node_head s w n) (head_by u)
        go k u e (is_leaf z) = rw (by_leaf s w n (e ∙ z)) leaves
        go k u e (is_word z) = rw (by_word s w n (e ∙ z)) words
        go k u e (is_pair l h a b) =
            rw (by_pair s w n (λ y. omega arith) (λ y. omega arith) (omega arith), e) (pairs (number_means n.first a) (number_means n.second b))
        go k u e (is_choice_lem l h a) = rw (by_choice s w n (omega arith), e) (choices (λ c. rows_mean c n.first n.second a))

    -- the node n of a type
    module _ (i : ℕ) (n : TypeNode) (o : NodeOf w i n) (a : TypeIn s w i) where
      node_means : Matching same Means (node_head s w n) (head_by (shape (plain_in s w i)))
      node_means = shape_mean n (shape (plain_in s w i)) (shape_in s w i n o t a)

      pub parts_in : (n.kind ≡ 0 → ⊥) → (n.kind ≡ 1 → ⊥) → n.kind < 5 → TypeIn s w n.first × TypeIn s w n.second
      parts_in x y z = let p = pair_in (shape_in s w i n o t a) (omega arith) (omega arith) in (p.first, p.second)

      pub labels_in : 5 ≤ n.kind → AlternativesIn s w n.first n.second
      labels_in z = (choice_in (shape_in s w i n o t a) z).labels

    pub head_inside : (i : ℕ) → TypeIn s w i → Inside same (TypeIn s w) (head_in s w i)
    head_inside i a = inside_first same (λ x y m. m.0) (node_means i (node_at w i) (node_of w i (node_at w i) refl) a)

    kept : (i : ℕ) (A : Ty Name) → Means i A → Matching same Means (head_in s w i) (head_of types A)
    kept i A (a, e) = subst (λ B. Matching same Means (head_in s w i) (head_by (shape B))) e (node_means i (node_at w i) (node_of w i (node_at w i) refl) a)

    -- nodes are equal exactly when the trees are for which they stand
    pub same_numbers : {i j : ℕ} {A B : Ty Name} → Means i A → Means j B → Equal same (head_in s w) i j ↔ Equal same (head_of types) A B
    same_numbers a b = equal_means same (head_in s w) (head_of types) Means kept a b
