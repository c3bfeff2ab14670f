-- Types in the tables: what is written stands there, stays, and is read back.
use Rattle.std.specs.Prelude.{ℕ, zero, suc, ◌+◌, ◌-◌, ◌<◌, ◌≤◌, ◌≡◌, refl, List}
use Rattle.std.proofs.Common.{◌∙◌, ap, arith}
use Rattle.notation.specs.Fine.{FineAlternatives, FineType}
use Rattle.notation.specs.Limits.{type_term_limit}
use Rattle.notation.specs.Sizes.{type_terms, alternatives_terms}
use Rattle.notation.specs.Tree.{Located, Ty, unit, named, tensor, par, lolli, plus, with, Alternatives, alternative}
use Rattle.notation.specs.Reader.{label_in}
use Rattle.notation.specs.Tables.{lasting, type_node, put_node, put_infix, put_choice, more_nodes, after_type, after_alternatives, write_type, write_alternatives, type_kind_radix, type_first_radix, Within}
use Rattle.notation.specs.declared.reading.Tally.{Tally}
use Rattle.notation.specs.declared.reading.TypeNode.{TypeNode}
use Rattle.notation.specs.Tables.{Area}
use Rattle.read_tables.specs.Decode.{node_at, alternatives_by, type_by, type_of, type_in}
use Rattle.read_tables.specs.Packing.{node_put, alternative_put}
use Rattle.read_tables.specs.Growth.{Grown, grown_then, grown_lasting, grown_node, grown_alternative, node_kept, alternative_kept}
use Rattle.notation.specs.From.{TypeFrom, AlternativesFrom}
use Rattle.read_tables.specs.Stands.{count, InfixAt, ChoiceAt, TypeAt, WholeAt, AlternativesAt}

-- ── a type is appended
-- an infix node between its parts
grown_infix : {k d l : Tally} {w v x : List ℕ} (n : TypeNode) → Grown k d w v → Grown (more_nodes d) l (put_node v d.nodes n) x → Grown k (lasting d.nodes l) w x
grown_infix {d = d} {l = l} {v = v} {x = x} n f g = grown_then f (grown_then (grown_node d v n) (grown_then g (grown_lasting d.nodes l x)))

-- a choice before its alternatives
grown_choice : {k l : Tally} {w x : List ℕ} (n : TypeNode) → Grown (more_nodes k) l (put_node w k.nodes n) x → Grown k (lasting k.nodes l) w x
grown_choice {k = k} {l = l} {w = w} {x = x} n g = grown_then (grown_node k w n) (grown_then g (grown_lasting k.nodes l x))

mutual
  unfolding after_type write_type

  pub type_grown : (A : Ty Located) (k : Tally) (w : List ℕ) → Grown k (after_type A k) w (write_type A k w)
  type_grown unit k w = grown_node k w _
  type_grown (named n) k w = grown_node k w _
  type_grown (tensor A B) k w = grown_infix _ (type_grown A k w) (type_grown B (more_nodes (after_type A k)) _)
  type_grown (par A B) k w = grown_infix _ (type_grown A k w) (type_grown B (more_nodes (after_type A k)) _)
  type_grown (lolli A B) k w = grown_infix _ (type_grown A k w) (type_grown B (more_nodes (after_type A k)) _)
  type_grown (plus r) k w = grown_choice _ (alternatives_grown r (more_nodes k) _)
  type_grown (with r) k w = grown_choice _ (alternatives_grown r (more_nodes k) _)

  pub alternatives_grown : (r : Alternatives Located) (k : Tally) (w : List ℕ) → Grown k (after_alternatives r k) w (write_alternatives r k w)
  alternatives_grown Alternatives.none k w = grown_lasting 0 k w
  alternatives_grown (alternative l A r) k w =
      grown_then (type_grown A k w) (grown_then (alternatives_grown r (after_type A k) (write_type A k w)) (grown_alternative (after_alternatives r (after_type A k)) _ _ _))

-- the tables of declarations are left alone
abbrev pub Steady : Tally → Tally → Type 0
Steady k l = (l.types ≡ k.types) × (l.processes ≡ k.processes) × (l.execs ≡ k.execs) × (l.entries ≡ k.entries)

-- n type nodes more, and no process node
abbrev pub NodesMore : ℕ → Tally → Tally → Type 0
NodesMore n k l = (l.nodes ≡ k.nodes + n) × (l.terms ≡ k.terms) × Steady k l

-- a type has a node for each of its terms
mutual
  unfolding after_type type_terms

  pub type_counts : (A : Ty Located) (k : Tally) → NodesMore (type_terms A) k (after_type A k)
  type_counts unit k = omega arith
  type_counts (named n) k = omega arith
  type_counts (tensor A B) k = omega (arith, type_counts A k, type_counts B (more_nodes (after_type A k)))
  type_counts (par A B) k = omega (arith, type_counts A k, type_counts B (more_nodes (after_type A k)))
  type_counts (lolli A B) k = omega (arith, type_counts A k, type_counts B (more_nodes (after_type A k)))
  type_counts (plus r) k = omega (arith, alternatives_counts r (more_nodes k))
  type_counts (with r) k = omega (arith, alternatives_counts r (more_nodes k))

  pub alternatives_counts : (r : Alternatives Located) (k : Tally) → NodesMore (alternatives_terms r) k (after_alternatives r k)
  alternatives_counts Alternatives.none k = omega arith
  alternatives_counts (alternative l A r) k = omega (arith, type_counts A k, alternatives_counts r (after_type A k))

-- a type's own node is one of them
pub type_last : (A : Ty Located) (k : Tally) → (after_type A k).last < (after_type A k).nodes
unfolding after_type
type_last unit k = omega arith
type_last (named n) k = omega arith
type_last (tensor A B) k = omega (arith, type_counts B (more_nodes (after_type A k)))
type_last (par A B) k = omega (arith, type_counts B (more_nodes (after_type A k)))
type_last (lolli A B) k = omega (arith, type_counts B (more_nodes (after_type A k)))
type_last (plus r) k = omega (arith, alternatives_counts r (more_nodes k))
type_last (with r) k = omega (arith, alternatives_counts r (more_nodes k))

-- a list is as long as it says
pub alternatives_last : (r : Alternatives Located) (k : Tally) → (after_alternatives r k).last ≡ count r
unfolding after_type
alternatives_last Alternatives.none k = refl
alternatives_last (alternative l A r) k = omega (arith, alternatives_last r (after_type A k))

-- ── what stands stays
module _ {k l : Tally} {w v : List ℕ} (g : Grown k l w v) (h : Within l) where
  infix_kept : (i kind : ℕ) {P Q P' Q' : ℕ → Type 0} → i < k.nodes → ((x : ℕ) → x < k.nodes → P x → P' x) → ((x : ℕ) → x < k.nodes → Q x → Q' x) → InfixAt w k i kind P Q → InfixAt v l i kind P' Q'
  infix_kept i kind b f f' (x, y, e, p, q, a, c) = let u = g.more in (x, y, node_kept g h i b ∙ e, omega arith, omega arith, f x p a, f' y q c)

  choice_kept : (i kind n : ℕ) {P P' : ℕ → Type 0} → i < k.nodes → ((a : ℕ) → a ≤ k.alternatives → P a → P' a) → ChoiceAt w k i kind n P → ChoiceAt v l i kind n P'
  choice_kept i kind n b f (a, e, p, c) = let u = g.more in (a, node_kept g h i b ∙ e, omega arith, f a p c)

  mutual
    unfolding TypeAt

    pub type_kept : (A : Ty Located) (i : ℕ) → i < k.nodes → TypeAt w k i A → TypeAt v l i A
    type_kept unit i b e = node_kept g h i b ∙ e
    type_kept (named n) i b e = node_kept g h i b ∙ e
    type_kept (tensor A B) i b e = infix_kept i 2 b (λ x c m. type_kept A x c m) (λ x c m. type_kept B x c m) e
    type_kept (par A B) i b e = infix_kept i 3 b (λ x c m. type_kept A x c m) (λ x c m. type_kept B x c m) e
    type_kept (lolli A B) i b e = infix_kept i 4 b (λ x c m. type_kept A x c m) (λ x c m. type_kept B x c m) e
    type_kept (plus r) i b e = choice_kept i 5 (count r) b (λ a c m. alternatives_kept r a c m) e
    type_kept (with r) i b e = choice_kept i 6 (count r) b (λ a c m. alternatives_kept r a c m) e

    pub alternatives_kept : (r : Alternatives Located) (a : ℕ) → a ≤ k.alternatives → AlternativesAt w k a r → AlternativesAt v l a r
    alternatives_kept Alternatives.none a c e = e
    alternatives_kept (alternative n A r) a c (x, p, e, q, f, m) =
        let u = g.more in
        (x, p, alternative_kept g h (a - 1) (omega arith) ∙ e, omega arith, type_kept A x q f, alternatives_kept r (a - 1) (omega arith) m)

  pub whole_kept : (A : Ty Located) (i : ℕ) → WholeAt w k i A → WholeAt v l i A
  whole_kept A i (b, c, e) = let u = g.more in (omega arith, omega arith, type_kept A i b e)

-- ── what is written stands
-- a type is written, and stands
abbrev pub Written : Ty Located → Tally → List ℕ → Type 0
Written A k w = TypeAt (write_type A k w) (after_type A k) (after_type A k).last A

abbrev pub AlternativesWritten : Alternatives Located → Tally → List ℕ → Type 0
AlternativesWritten r k w = AlternativesAt (write_alternatives r k w) (after_alternatives r k) (after_alternatives r k).alternatives r

-- a node that was put, then and after what is appended to it
node_stands : (k l : Tally) (w v : List ℕ) (kind first second : ℕ) → Area w → Within l → Grown (more_nodes k) l (put_node w k.nodes (type_node kind first second)) v → kind < type_kind_radix → first < type_first_radix
    → node_at v k.nodes ≡ type_node kind first second
node_stands k l w v kind first second area h g a b =
    let u = g.more in
    node_kept g h k.nodes (omega arith) ∙ node_put w k.nodes kind first second area (omega arith) a b

module _ (kind : ℕ) (A B : Ty Located) (k : Tally) (w : List ℕ) where
  -- up to the left part, the whole, and the words with the left part, with the node, with the whole
  abbrev left_of : Tally
  left_of = after_type A k

  abbrev right_of : Tally
  right_of = after_type B (more_nodes left_of)

  abbrev node_words : List ℕ
  node_words = put_infix kind left_of right_of (write_type A k w)

  abbrev infix_words : List ℕ
  infix_words = write_type B (more_nodes left_of) node_words

  abbrev infix_tally : Tally
  infix_tally = lasting left_of.nodes right_of

  infix_written : kind < type_kind_radix → Area w → Within right_of → (Within left_of → Written A k w) → (Area node_words → Written B (more_nodes left_of) node_words)
      → InfixAt infix_words infix_tally left_of.nodes kind (λ x. TypeAt infix_words infix_tally x A) (λ y. TypeAt infix_words infix_tally y B)
  infix_written small area h first second =
      let ga = type_grown A k w in
      let gn = grown_node left_of (write_type A k w) (type_node kind left_of.last right_of.last) in
      let gl = grown_lasting left_of.nodes right_of infix_words in
      let gb = grown_then (type_grown B (more_nodes left_of) node_words) gl in
      let ub = gb.more in
      let la = type_last A k in
      let lb = type_last B (more_nodes left_of) in (
        left_of.last,
        right_of.last,
        node_stands left_of infix_tally (write_type A k w) infix_words kind left_of.last right_of.last (omega (arith, ga.long)) h gb small (omega arith),
        omega arith,
        lb,
        type_kept (grown_then gn gb) h A left_of.last la (first (omega arith)),
        type_kept gl h B right_of.last lb (second (omega (arith, ga.long, gn.long))),
      )

module _ (kind : ℕ) (r : Alternatives Located) (k : Tally) (w : List ℕ) where
  abbrev list_tally : Tally
  list_tally = after_alternatives r (more_nodes k)

  abbrev choice_words : List ℕ
  choice_words = write_alternatives r (more_nodes k) (put_choice kind k list_tally w)

  abbrev choice_tally : Tally
  choice_tally = lasting k.nodes list_tally

  choice_written : kind < type_kind_radix → Area w → Within list_tally → (Area (put_choice kind k list_tally w) → AlternativesWritten r (more_nodes k) (put_choice kind k list_tally w))
      → ChoiceAt choice_words choice_tally k.nodes kind (count r) (λ a. AlternativesAt choice_words choice_tally a r)
  choice_written small area h list =
      let gn = grown_node k w (type_node kind list_tally.alternatives list_tally.last) in
      let gl = grown_lasting k.nodes list_tally choice_words in
      let g = grown_then (alternatives_grown r (more_nodes k) (put_choice kind k list_tally w)) gl in (
        list_tally.alternatives,
        node_stands k choice_tally w choice_words kind list_tally.alternatives list_tally.last area h g small (omega arith)
            ∙ ap (type_node kind list_tally.alternatives) (alternatives_last r (more_nodes k)),
        omega arith,
        alternatives_kept gl h r list_tally.alternatives (omega arith) (list (omega (arith, gn.long))),
      )

mutual
  unfolding after_type write_type FineType TypeAt

  pub type_written : (A : Ty Located) (k : Tally) (w : List ℕ) → FineType A → Area w → Within (after_type A k) → Written A k w
  type_written unit k w f area h = node_put w k.nodes 0 0 0 area (omega arith) (omega arith) (omega arith)
  type_written (named n) k w f area h = node_put w k.nodes 1 0 n.at area (omega arith) (omega arith) (omega arith)
  type_written (tensor A B) k w (f, f') area h = infix_written 2 A B k w (omega arith) area h (λ m. type_written A k w f area m) (λ a. type_written B _ _ f' a h)
  type_written (par A B) k w (f, f') area h = infix_written 3 A B k w (omega arith) area h (λ m. type_written A k w f area m) (λ a. type_written B _ _ f' a h)
  type_written (lolli A B) k w (f, f') area h = infix_written 4 A B k w (omega arith) area h (λ m. type_written A k w f area m) (λ a. type_written B _ _ f' a h)
  type_written (plus r) k w (f, some) area h = choice_written 5 r k w (omega arith) area h (λ a. alternatives_written r _ _ f a h)
  type_written (with r) k w (f, some) area h = choice_written 6 r k w (omega arith) area h (λ a. alternatives_written r _ _ f a h)

  pub alternatives_written : (r : Alternatives Located) (k : Tally) (w : List ℕ) → FineAlternatives r → Area w → Within (after_alternatives r k) → AlternativesWritten r k w
  alternatives_written Alternatives.none k w f area h = omega arith
  alternatives_written (alternative l A r) k w (f, f', f'') area h =
      let d = after_type A k in
      let e = after_alternatives r d in
      let w₁ = write_type A k w in
      let w₂ = write_alternatives r d w₁ in
      let ga = type_grown A k w in
      let gr = alternatives_grown r d w₁ in
      let gl = grown_alternative e w₂ l.at d.last in
      let ua = ga.more in
      let ur = gr.more in
      let la = type_last A k in
      let z : e.alternatives + 1 - 1 ≡ e.alternatives = omega arith in
      rw z (
        d.last,
        omega arith,
        alternative_put w₂ e.alternatives l.at d.last (omega (arith, ga.long, gr.long)) (omega arith) f,
        omega arith,
        type_kept (grown_then gr gl) h A d.last la (type_written A k w f' area (omega arith)),
        alternatives_kept gl h r e.alternatives (omega arith) (alternatives_written r d w₁ f'' (omega (arith, ga.long)) (omega arith)),
      )

-- a type by itself is written, and stands after all that is appended later
pub whole_written : (A : Ty Located) (k l : Tally) (w v : List ℕ) → FineType A → Area w → Within l → Grown (after_type A k) l (write_type A k w) v → WholeAt v l (after_type A k).last A
whole_written A k l w v f area h g =
    let u = g.more in
    whole_kept g h A (after_type A k).last (type_last A k, omega (arith, type_counts A k), type_written A k w f area (omega arith))

-- ── what stands is read back
node_read : (f : ℕ) (s w : List ℕ) (i : ℕ) (n : TypeNode) → 1 ≤ f → node_at w i ≡ n → type_of f s w i ≡ type_by (λ x. type_of (f - 1) s w x) s w n
unfolding type_of
node_read zero s w i n b e = absurd (omega arith)
node_read (suc f) s w i n b e =
    let z : f ≡ suc f - 1 = omega arith in
    let under : ℕ → Ty Located = λ g. type_by (λ x. type_of g s w x) s w n in
    ap (type_by (λ x. type_of f s w x) s w) e ∙ ap under z

mutual
  unfolding TypeAt TypeFrom type_terms

  pub type_read : (A : Ty Located) (s w : List ℕ) (k : Tally) (i f : ℕ) → TypeFrom s A → TypeAt w k i A → type_terms A ≤ f → type_of f s w i ≡ A
  type_read unit s w k i f t e b = node_read f s w i _ b e
  type_read (named n) s w k i f t e b = node_read f s w i _ b e ∙ ap named t
  type_read (tensor A B) s w k i f (t, u) (x, y, e, p, q, a, c) b =
      let m = type_read A s w k x (f - 1) t a (omega arith) in
      let n = type_read B s w k y (f - 1) u c (omega arith) in
      node_read f s w i _ (omega arith) e ∙ λ j. tensor (m j) (n j)
  type_read (par A B) s w k i f (t, u) (x, y, e, p, q, a, c) b =
      let m = type_read A s w k x (f - 1) t a (omega arith) in
      let n = type_read B s w k y (f - 1) u c (omega arith) in
      node_read f s w i _ (omega arith) e ∙ λ j. par (m j) (n j)
  type_read (lolli A B) s w k i f (t, u) (x, y, e, p, q, a, c) b =
      let m = type_read A s w k x (f - 1) t a (omega arith) in
      let n = type_read B s w k y (f - 1) u c (omega arith) in
      node_read f s w i _ (omega arith) e ∙ λ j. lolli (m j) (n j)
  type_read (plus r) s w k i f t (a, e, p, c) b = node_read f s w i _ (omega arith) e ∙ ap plus (alternatives_read r s w k a (f - 1) t c (omega arith))
  type_read (with r) s w k i f t (a, e, p, c) b = node_read f s w i _ (omega arith) e ∙ ap with (alternatives_read r s w k a (f - 1) t c (omega arith))

  pub alternatives_read : (r : Alternatives Located) (s w : List ℕ) (k : Tally) (e f : ℕ) → AlternativesFrom s r → AlternativesAt w k e r → alternatives_terms r ≤ f
      → alternatives_by (λ x. type_of f s w x) s w e (count r) ≡ r
  alternatives_read Alternatives.none s w k e f t h b = refl
  alternatives_read (alternative l A r) s w k e f (t, u, v) (x, p, h, q, a, c) b =
      let m = type_read A s w k x f u a (omega arith) in
      let n = alternatives_read r s w k (e - 1) f v c (omega arith) in
      (λ j. alternative (label_in s (h j).0) (type_of f s w (h j).1) (alternatives_by (λ x. type_of f s w x) s w (e - 1) (count r))) ∙ λ j. alternative (t j) (m j) (n j)

-- a type that was read and written is read back from its node, then and after all that is appended later
pub type_decoded : (A : Ty Located) (s w v : List ℕ) (k l : Tally) → TypeFrom s A → FineType A → Area w → Within l → Grown (after_type A k) l (write_type A k w) v → type_in s v (after_type A k).last ≡ A
type_decoded A s w v k l t f area h g =
    let (b, c, e) = whole_written A k l w v f area h g in
    type_read A s v l (after_type A k).last type_term_limit t e (omega arith)
