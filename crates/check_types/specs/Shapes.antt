-- The shape of the type at a node, by the node's kind: what code that goes by kinds knows of the type.
use Prim.Native.Nat.{ℕ, zero, suc, ◌≤◌}
use Rattle.std.specs.Prelude.{◌≡◌, refl, List}
use Rattle.std.proofs.Common.{arith}
use Rattle.notation.specs.Token.{name_at}
use Rattle.notation.specs.Tree.{Name, Located, Ty, unit, named, tensor, par, lolli, plus, with, Alternatives, plain, plains}
use Rattle.notation.specs.declared.reading.TypeNode.{TypeNode}
use Rattle.calculus.specs.Types.{Shape, leaf, word, pair, choice, shape}
use Rattle.read_tables.specs.Access.{NodeOf}
use Rattle.read_tables.specs.Decode.{type_in}
use Rattle.read_tables.specs.Program.{plain_in}
use Rattle.read_tables.specs.Roots.{at_kind, type_cases, TypeIn, AlternativesIn, alternatives_in}
use Rattle.read_tables.specs.Whole.{Tables}

-- a property of types, mark by mark
pub by_marks : (P : Ty Name → Type 0) → P unit → ((n : Name) → P (named n)) → ((A B : Ty Name) → P (tensor A B) × P (par A B) × P (lolli A B)) → ((r : Alternatives Name) → P (plus r) × P (with r)) → (A : Ty Name) → P A
by_marks P u n p c unit = u
by_marks P u n p c (named m) = n m
by_marks P u n p c (tensor A B) = (p A B).0
by_marks P u n p c (par A B) = (p A B).1
by_marks P u n p c (lolli A B) = (p A B).2
by_marks P u n p c (plus r) = (c r).0
by_marks P u n p c (with r) = (c r).1

-- a node n of kind k, and the shape of the type there
pub data ShapeIn (s w : List ℕ) (n : TypeNode) (k : ℕ) : Shape → Type 0 where
  is_leaf : k ≡ 0 → ShapeIn s w n k leaf
  is_word : k ≡ 1 → ShapeIn s w n k (word (name_at s n.second))
  is_pair : 2 ≤ k → k ≤ 4 → TypeIn s w n.first → TypeIn s w n.second → ShapeIn s w n k (pair k (plain_in s w n.first) (plain_in s w n.second))
  is_choice_lem : 5 ≤ k → k ≤ 6 → AlternativesIn s w n.first n.second → ShapeIn s w n k (choice k (plains (alternatives_in s w n.first n.second)))

module _ (s w : List ℕ) (i : ℕ) (n : TypeNode) where
  abbrev Shaped : ℕ → Ty Located → Type 0
  Shaped k A = ShapeIn s w n k (shape (plain A))

  shaped : (A : Ty Located) (k : ℕ) → at_kind (type_cases s w n A) k → Shaped k A
  unfolding plain
  shaped A zero x = rw x (is_leaf refl)
  shaped A (suc zero) x = rw x (is_word refl)
  shaped A (suc (suc zero)) (a, b, c, d, x) = rw x (is_pair (omega arith) (omega arith) c d)
  shaped A (suc (suc (suc zero))) (a, b, c, d, x) = rw x (is_pair (omega arith) (omega arith) c d)
  shaped A (suc (suc (suc (suc zero)))) (a, b, c, d, x) = rw x (is_pair (omega arith) (omega arith) c d)
  shaped A (suc (suc (suc (suc (suc zero))))) (l, a, x) = rw x (is_choice_lem (omega arith) (omega arith) a)
  shaped A (suc (suc (suc (suc (suc (suc zero)))))) (l, a, x) = rw x (is_choice_lem (omega arith) (omega arith) a)
  shaped A (suc (suc (suc (suc (suc (suc (suc k))))))) x = absurd x

  pub shape_in : NodeOf w i n → Tables s w → TypeIn s w i → ShapeIn s w n n.kind (shape (plain_in s w i))
  shape_in o t a = shaped (type_in s w i) n.kind (o.says s t a).says

-- ── the view at a known kind
pub record PairIn (s w : List ℕ) (n : TypeNode) (k : ℕ) (t : Shape) : Type 0 where
  pub first : TypeIn s w n.first
  pub second : TypeIn s w n.second
  pub is : t ≡ pair k (plain_in s w n.first) (plain_in s w n.second)

pub record ChoiceIn (s w : List ℕ) (n : TypeNode) (k : ℕ) (t : Shape) : Type 0 where
  pub labels : AlternativesIn s w n.first n.second
  pub is : t ≡ choice k (plains (alternatives_in s w n.first n.second))

module _ {s w : List ℕ} {n : TypeNode} {k : ℕ} where
  pub leaf_in : {t : Shape} → ShapeIn s w n k t → k ≡ 0 → t ≡ leaf
  leaf_in (is_leaf e) z = refl
  leaf_in (is_word e) z = absurd (omega arith)
  leaf_in (is_pair l h a b) z = absurd (omega arith)
  leaf_in (is_choice_lem l h a) z = absurd (omega arith)

  pub word_in : {t : Shape} → ShapeIn s w n k t → k ≡ 1 → t ≡ word (name_at s n.second)
  word_in (is_leaf e) z = absurd (omega arith)
  word_in (is_word e) z = refl
  word_in (is_pair l h a b) z = absurd (omega arith)
  word_in (is_choice_lem l h a) z = absurd (omega arith)

  pub pair_in : {t : Shape} → ShapeIn s w n k t → 2 ≤ k → k ≤ 4 → PairIn s w n k t
  pair_in (is_leaf e) z y = absurd (omega arith)
  pair_in (is_word e) z y = absurd (omega arith)
  pair_in (is_pair l h a b) z y = record { first = a; second = b; is = refl }
  pair_in (is_choice_lem l h a) z y = absurd (omega arith)

  pub choice_in : {t : Shape} → ShapeIn s w n k t → 5 ≤ k → ChoiceIn s w n k t
  choice_in (is_leaf e) z = absurd (omega arith)
  choice_in (is_word e) z = absurd (omega arith)
  choice_in (is_pair l h a b) z = absurd (omega arith)
  choice_in (is_choice_lem l h a) z = record { labels = a; is = refl }
