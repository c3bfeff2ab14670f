-- What the fold puts before a type may be put after it, where it commutes with each word of the type: a node of a smaller number, or what stands in no table of types.
use mathlib.Core.Path.{◌≡◌, refl, ap, ◌∙◌}
use mathlib.Core.List.{List}
use Prim.Native.Nat.{ℕ, ◌+◌, ◌<◌, ◌≤◌}
use native.Mathlib.Omega.{arith}
use lib.Seq.{set_comm}
use Rattle.notation.specs.Limits.{type_term_limit}
use Rattle.notation.specs.Tree.{Located, Ty, unit, named, tensor, par, lolli, plus, with, Alternatives, alternative}
use Rattle.notation.specs.Tables.{nodes_at, alternatives_at, type_word, pair_word, type_node, more_nodes, put_infix, put_choice, put_node, put_alternative, after_type, after_alternatives, write_type, write_alternatives}
use Rattle.notation.specs.declared.reading.Tally.{Tally}
use Rattle.notation.specs.declared.reading.TypeNode.{TypeNode}

-- no type takes anything back
abbrev pub Grown : Tally → Tally → Type 0
Grown k l = (k.nodes ≤ l.nodes) × (k.alternatives ≤ l.alternatives) × (k.terms ≤ l.terms)

after_left : (k d l : Tally) → Grown k d → Grown (more_nodes d) l → Grown k l
after_left k d l p q = omega arith

mutual
  unfolding after_type

  pub type_grown : (A : Ty Located) (k : Tally) → Grown k (after_type A k)
  type_grown unit k = omega arith
  type_grown (named n) k = omega arith
  type_grown (tensor A B) k = after_left k (after_type A k) (after_type B (more_nodes (after_type A k))) (type_grown A k) (type_grown B (more_nodes (after_type A k)))
  type_grown (par A B) k = after_left k (after_type A k) (after_type B (more_nodes (after_type A k))) (type_grown A k) (type_grown B (more_nodes (after_type A k)))
  type_grown (lolli A B) k = after_left k (after_type A k) (after_type B (more_nodes (after_type A k))) (type_grown A k) (type_grown B (more_nodes (after_type A k)))
  type_grown (plus r) k = let a = alternatives_grown r (more_nodes k) in omega arith
  type_grown (with r) k = let a = alternatives_grown r (more_nodes k) in omega arith

  alternatives_grown : (r : Alternatives Located) (k : Tally) → Grown k (after_alternatives r k)
  alternatives_grown Alternatives.none k = omega arith
  alternatives_grown (alternative l A r) k =
      let a = type_grown A k in
      let b = alternatives_grown r (after_type A k) in
      omega arith

-- ── what is put late commutes with the nodes from `from` on, and with alternatives, as far as both stay below `limit`
module _ (put : List ℕ → List ℕ) (from limit : ℕ) (past_node : (w : List ℕ) (j : ℕ) (m : TypeNode) → from ≤ j → j < limit → put_node (put w) j m ≡ put (put_node w j m))
    (past_alternative : (w : List ℕ) (j at m : ℕ) → j < limit → put_alternative (put w) j at m ≡ put (put_alternative w j at m)) where
  abbrev Below : Tally → Type 0
  Below l = (l.nodes ≤ limit) × (l.alternatives ≤ limit)

  -- past a node, and what is written after it
  past_both : (write : List ℕ → List ℕ) (j : ℕ) (m : TypeNode) {v : List ℕ} (w : List ℕ) → from ≤ j → j < limit → v ≡ put w
      → ((x : List ℕ) → write (put x) ≡ put (write x)) → write (put_node v j m) ≡ put (write (put_node w j m))
  past_both write j m w l b e h = ap (λ x. write (put_node x j m)) e ∙ ap write (past_node w j m l b) ∙ h (put_node w j m)

  -- an infix by its parts, a choice by its list
  late_infix : (kind : ℕ) (A B : Ty Located) (k : Tally) (w : List ℕ)
      → let d = after_type A k in
      from ≤ k.nodes → Below (after_type B (more_nodes d)) → (Below d → write_type A k (put w) ≡ put (write_type A k w))
      → ((x : List ℕ) → from ≤ (more_nodes d).nodes → Below (after_type B (more_nodes d)) → write_type B (more_nodes d) (put x) ≡ put (write_type B (more_nodes d) x))
      → write_type B (more_nodes d) (put_infix kind d (after_type B (more_nodes d)) (write_type A k (put w))) ≡ put (write_type B (more_nodes d) (put_infix kind d (after_type B (more_nodes d)) (write_type A k w)))
  late_infix kind A B k w l h p q =
      let d = after_type A k in
      let a = type_grown A k in
      let b = type_grown B (more_nodes d) in
      past_both (write_type B (more_nodes d)) d.nodes _ (write_type A k w) (omega arith) (omega arith) (p (omega arith)) (λ x. q x (omega arith) h)

  late_choice : (kind : ℕ) (r : Alternatives Located) (k : Tally) (w : List ℕ) → let d = after_alternatives r (more_nodes k) in
      from ≤ k.nodes → Below d → ((x : List ℕ) → from ≤ (more_nodes k).nodes → Below d → write_alternatives r (more_nodes k) (put x) ≡ put (write_alternatives r (more_nodes k) x))
      → write_alternatives r (more_nodes k) (put_choice kind k d (put w)) ≡ put (write_alternatives r (more_nodes k) (put_choice kind k d w))
  late_choice kind r k w l h q =
      let a = alternatives_grown r (more_nodes k) in
      past_both (write_alternatives r (more_nodes k)) k.nodes _ w l (omega arith) refl (λ x. q x (omega arith) h)

  mutual
    unfolding write_type after_type

    pub late_type : (A : Ty Located) (k : Tally) (w : List ℕ) → from ≤ k.nodes → Below (after_type A k) → write_type A k (put w) ≡ put (write_type A k w)
    late_type unit k w l h = past_node w k.nodes (type_node 0 0 0) l (omega arith)
    late_type (named x) k w l h = past_node w k.nodes (type_node 1 0 x.at) l (omega arith)
    late_type (tensor A B) k w l h = late_infix 2 A B k w l h (λ b. late_type A k w l b) (λ x a b. late_type B (more_nodes (after_type A k)) x a b)
    late_type (par A B) k w l h = late_infix 3 A B k w l h (λ b. late_type A k w l b) (λ x a b. late_type B (more_nodes (after_type A k)) x a b)
    late_type (lolli A B) k w l h = late_infix 4 A B k w l h (λ b. late_type A k w l b) (λ x a b. late_type B (more_nodes (after_type A k)) x a b)
    late_type (plus r) k w l h = late_choice 5 r k w l h (λ x a b. late_alternatives r (more_nodes k) x a b)
    late_type (with r) k w l h = late_choice 6 r k w l h (λ x a b. late_alternatives r (more_nodes k) x a b)

    pub late_alternatives : (r : Alternatives Located) (k : Tally) (w : List ℕ) → from ≤ k.nodes → Below (after_alternatives r k) → write_alternatives r k (put w) ≡ put (write_alternatives r k w)
    late_alternatives Alternatives.none k w l h = refl
    late_alternatives (alternative x A r) k w l h =
        let a = type_grown A k in
        let b = alternatives_grown r (after_type A k) in
        let entry : List ℕ → List ℕ = λ v. put_alternative v (after_alternatives r (after_type A k)).alternatives x.at (after_type A k).last in
        ap (λ v. entry (write_alternatives r (after_type A k) v)) (late_type A k w l (omega arith))
        ∙ ap entry (late_alternatives r (after_type A k) (write_type A k w) (omega arith) (omega arith))
        ∙ past_alternative (write_alternatives r (after_type A k) (write_type A k w)) _ _ _ (omega arith)

-- ── a node of a smaller number
module _ (i : ℕ) (n : TypeNode) (few : i < type_term_limit) where
  past_node : (w : List ℕ) (j : ℕ) (m : TypeNode) → i + 1 ≤ j → put_node (put_node w i n) j m ≡ put_node (put_node w j m) i n
  unfolding put_node
  past_node w j m l = set_comm w (nodes_at + i) (nodes_at + j) (type_word n) (type_word m) (λ e. absurd (omega arith))

  past_alternative : (w : List ℕ) (j at m : ℕ) → put_alternative (put_node w i n) j at m ≡ put_node (put_alternative w j at m) i n
  unfolding put_node put_alternative
  past_alternative w j at m = set_comm w (nodes_at + i) (alternatives_at + j) (type_word n) (pair_word at m) (λ e. absurd (omega arith))

  -- whatever the tables hold: some limit is above it
  pub type_put : (A : Ty Located) (k : Tally) (w : List ℕ) → i < k.nodes → write_type A k (put_node w i n) ≡ put_node (write_type A k w) i n
  type_put A k w l = late_type (λ v. put_node v i n) (i + 1) ((after_type A k).nodes + (after_type A k).alternatives) (λ v j m a _. past_node v j m a) (λ v j at m _. past_alternative v j at m) A k w (omega arith) (omega arith, omega arith)

  pub alternatives_put : (r : Alternatives Located) (k : Tally) (w : List ℕ) → i < k.nodes → write_alternatives r k (put_node w i n) ≡ put_node (write_alternatives r k w) i n
  alternatives_put r k w l = late_alternatives (λ v. put_node v i n) (i + 1) ((after_alternatives r k).nodes + (after_alternatives r k).alternatives) (λ v j m a _. past_node v j m a) (λ v j at m _. past_alternative v j at m) r k w (omega arith) (omega arith, omega arith)
