-- What the node at a number says of the tree that stands there, by its kind: what code that walks over numbers goes by. Its parts have fewer terms.
use Rattle.std.specs.Prelude.{ℕ, zero, suc, ◌+◌, ◌-◌, ◌<◌, ◌≤◌, ◌≡◌}
use Rattle.std.proofs.Math.Path.{refl, sym, ap, subst}
use Rattle.std.proofs.Common.{◌∙◌, arith}
use mathlib.Core.List.{List}
use Rattle.notation.specs.Limits.{text_limit, type_term_limit, process_term_limit}
use Rattle.notation.specs.Tree.{Located, Ty, unit, named, tensor, par, lolli, plus, with, Alternatives, alternative, Proc, empty, send_unit, send_channel, send_label, cancel, spawn, recv_unit, recv_channel, recv_label, fwd, call, raise, try, Branches, branch}
use Rattle.notation.specs.Sizes.{type_terms, alternatives_terms, process_terms, branches_terms}
use Rattle.notation.specs.Reader.{name_in, label_in}
use Rattle.notation.specs.Tables.{type_node, term_node, Within}
use Rattle.notation.specs.declared.reading.TypeNode.{TypeNode}
use Rattle.notation.specs.declared.reading.TermNode.{TermNode}
use Rattle.read_tables.specs.Names.{CallAt}
use Rattle.read_tables.specs.Decode.{tally_in, node_at, alternative_at, term_at, branch_at, arguments_at, alternatives_by, type_in, branches_by, process_in}
use Rattle.notation.specs.From.{TypeFrom, AlternativesFrom, ProcessFrom, BranchesFrom}
use Rattle.read_tables.specs.Stands.{count, count_branches, TypeAt, WholeAt, AlternativesAt, ProcessAt, BranchesAt}
use Rattle.read_tables.specs.Arguments.{arguments_read, call_read}
use Rattle.read_tables.specs.Types.{type_read, alternatives_read}
use Rattle.read_tables.specs.Processes.{process_read, branches_read}

-- what holds of each kind, in the order of kinds; of no other
pub data Cases : Type 1 where
  none : Cases
  ◌or◌ : Type 0 → Cases → Cases

infixr 20 ◌or◌
abbrev pub at_kind : Cases → ℕ → Type 0
at_kind Cases.none k = ⊥
at_kind (P or r) zero = P
at_kind (P or r) (suc k) = at_kind r k

-- to show something of every kind: show it where each case holds
abbrev pub Handlers : Cases → (ℕ → Type 0) → Type 0
Handlers Cases.none Q = Unit {0}
Handlers (P or r) Q = (P → Q 0) × Handlers r (λ k. Q (suc k))

pub each_kind : (cs : Cases) (Q : ℕ → Type 0) → Handlers cs Q → (k : ℕ) → at_kind cs k → Q k
each_kind Cases.none Q h k e = absurd e
each_kind (P or r) Q (f, g) zero e = f e
each_kind (P or r) Q (f, g) (suc k) e = each_kind r (λ j. Q (suc j)) g k e

-- ── types
-- a type stands at node i; n alternatives stand before the place e
pub record TypeIn (s w : List ℕ) (i : ℕ) : Type 0 where
  pub tree : Ty Located
  pub small : i < (tally_in w).nodes
  pub few : type_terms tree ≤ (tally_in w).nodes
  pub from : TypeFrom s tree
  pub is : TypeAt w (tally_in w) i tree

pub record AlternativesIn (s w : List ℕ) (e n : ℕ) : Type 0 where
  pub list : Alternatives Located
  pub within : e ≤ (tally_in w).alternatives
  pub few : alternatives_terms list ≤ (tally_in w).nodes
  pub long : n ≡ count list
  pub from : AlternativesFrom s list
  pub is : AlternativesAt w (tally_in w) e list

abbrev pub type_in_lem : (s w : List ℕ) (i : ℕ) (A : Ty Located) → TypeFrom s A → WholeAt w (tally_in w) i A → TypeIn s w i
type_in_lem s w i A t a = record { tree = A; small = a.0; few = a.1; from = t; is = a.2 }

abbrev pub alternatives_in : List ℕ → List ℕ → ℕ → ℕ → Alternatives Located
alternatives_in s w e n = alternatives_by (λ x. type_in s w x) s w e n

-- the type at x has fewer terms than A
abbrev pub FewerType : List ℕ → List ℕ → Ty Located → ℕ → Type 0
FewerType s w A x = type_terms (type_in s w x) < type_terms A

abbrev Infix : List ℕ → List ℕ → TypeNode → Ty Located → (Ty Located → Ty Located → Ty Located) → Type 0
Infix s w n A make =
    FewerType s w A n.first × FewerType s w A n.second × TypeIn s w n.first × TypeIn s w n.second × (A ≡ make (type_in s w n.first) (type_in s w n.second))

abbrev Choice : List ℕ → List ℕ → TypeNode → Ty Located → (Alternatives Located → Ty Located) → Type 0
Choice s w n A make =
    (alternatives_terms (alternatives_in s w n.first n.second) < type_terms A)
    × AlternativesIn s w n.first n.second
    × (A ≡ make (alternatives_in s w n.first n.second))

-- a node n for the type A
abbrev pub type_cases : List ℕ → List ℕ → TypeNode → Ty Located → Cases
type_cases s w n A =
    (A ≡ unit)
    or (A ≡ named (name_in s n.second))
    or Infix s w n A tensor
    or Infix s w n A par
    or Infix s w n A lolli
    or Choice s w n A plus
    or Choice s w n A with
    or Cases.none

pub record TypeRoot (s w : List ℕ) (n : TypeNode) (A : Ty Located) : Type 0 where
  pub says : at_kind (type_cases s w n A) n.kind

module _ (s w : List ℕ) (h : Within (tally_in w)) where
  pub type_tree : (i : ℕ) (t : TypeIn s w i) → type_in s w i ≡ t.tree
  type_tree i t = let b = t.few in type_read t.tree s w (tally_in w) i type_term_limit t.from t.is (omega arith)

  pub alternatives_tree : (e n : ℕ) (t : AlternativesIn s w e n) → alternatives_in s w e n ≡ t.list
  alternatives_tree e n t =
      let b = t.few in
      ap (alternatives_in s w e) t.long ∙ alternatives_read t.list s w (tally_in w) e type_term_limit t.from t.is (omega arith)

  -- a walk over a type is over few terms
  pub type_few : (i : ℕ) → TypeIn s w i → type_terms (type_in s w i) ≤ type_term_limit
  type_few i t = let b = t.few in omega (arith, ap type_terms (type_tree i t))

  -- the type A of the parts of C, at the number x
  type_part : (x : ℕ) (A C : Ty Located) → type_terms A < type_terms C → type_terms C ≤ (tally_in w).nodes → TypeFrom s A → x < (tally_in w).nodes → TypeAt w (tally_in w) x A
      → FewerType s w C x × TypeIn s w x × (A ≡ type_in s w x)
  type_part x A C l m t p a =
      let f : TypeIn s w x = record { tree = A; small = p; few = omega arith; from = t; is = a } in
      let r = type_tree x f in
      (omega (arith, ap type_terms r), f, sym r)

  infix_root : (kind x y : ℕ) (A B : Ty Located) (make : Ty Located → Ty Located → Ty Located)
      → type_terms (make A B) ≡ suc (type_terms A + type_terms B) → type_terms (make A B) ≤ (tally_in w).nodes → TypeFrom s A → TypeFrom s B
      → x < (tally_in w).nodes → y < (tally_in w).nodes → TypeAt w (tally_in w) x A → TypeAt w (tally_in w) y B → Infix s w (type_node kind x y) (make A B) make
  infix_root kind x y A B make z m t u p q a c =
      let (l, f, r) = type_part x A (make A B) (omega arith) m t p a in
      let (l', g, o) = type_part y B (make A B) (omega arith) m u q c in
      (l, l', f, g, λ j. make (r j) (o j))

  choice_root : (kind a : ℕ) (r : Alternatives Located) (make : Alternatives Located → Ty Located)
      → type_terms (make r) ≡ suc (alternatives_terms r) → type_terms (make r) ≤ (tally_in w).nodes → AlternativesFrom s r
      → a ≤ (tally_in w).alternatives → AlternativesAt w (tally_in w) a r → Choice s w (type_node kind a (count r)) (make r) make
  choice_root kind a r make z m t p c =
      let f : AlternativesIn s w a (count r) = record { list = r; within = p; few = omega arith; long = refl; from = t; is = c } in
      let o = alternatives_tree a (count r) f in
      (omega (arith, ap alternatives_terms o), f, ap make (sym o))

  root_of : (A : Ty Located) (i : ℕ) → type_terms A ≤ (tally_in w).nodes → TypeFrom s A → TypeAt w (tally_in w) i A → TypeRoot s w (node_at w i) A
  unfolding TypeAt TypeFrom type_terms
  root_of unit i m t e = rw e (record { says = refl })
  root_of (named n) i m t e = rw e (record { says = ap named (sym t) })
  root_of (tensor A B) i m (t, u) (x, y, e, p, q, a, c) = rw e (record { says = infix_root 2 x y A B tensor refl m t u p q a c })
  root_of (par A B) i m (t, u) (x, y, e, p, q, a, c) = rw e (record { says = infix_root 3 x y A B par refl m t u p q a c })
  root_of (lolli A B) i m (t, u) (x, y, e, p, q, a, c) = rw e (record { says = infix_root 4 x y A B lolli refl m t u p q a c })
  root_of (plus r) i m t (a, e, p, c) = rw e (record { says = choice_root 5 a r plus refl m t p c })
  root_of (with r) i m t (a, e, p, c) = rw e (record { says = choice_root 6 a r with refl m t p c })

  pub type_root : (i : ℕ) → TypeIn s w i → TypeRoot s w (node_at w i) (type_in s w i)
  type_root i t = subst (TypeRoot s w (node_at w i)) (sym (type_tree i t)) (root_of t.tree i t.few t.from t.is)

-- the first of a list that is not empty: where its label stands, and the number of its type
pub record FirstAlternative (s w : List ℕ) (e n at number : ℕ) : Type 0 where
  pub past : 1 ≤ e
  pub type : TypeIn s w number
  pub rest : AlternativesIn s w (e - 1) n
  pub is : alternatives_in s w e (suc n) ≡ alternative (label_in s at) (type_in s w number) (alternatives_in s w (e - 1) n)
  pub terms : alternatives_terms (alternatives_in s w e (suc n)) ≡ type_terms (type_in s w number) + alternatives_terms (alternatives_in s w (e - 1) n)

abbrev AlternativeThere : List ℕ → List ℕ → ℕ → ℕ → Type 0
AlternativeThere s w e n = FirstAlternative s w e n (alternative_at w (e - 1)).0 (alternative_at w (e - 1)).1

pub first_alternative : (s w : List ℕ) (e n : ℕ) → AlternativesIn s w e (suc n) → AlternativeThere s w e n
unfolding TypeAt TypeFrom type_terms
first_alternative s w e n t = go t.list t.within t.few t.long t.from t.is
  where
    go : (r : Alternatives Located) → e ≤ (tally_in w).alternatives → alternatives_terms r ≤ (tally_in w).nodes → suc n ≡ count r → AlternativesFrom s r → AlternativesAt w (tally_in w) e r → AlternativeThere s w e n
    go Alternatives.none c d l f m = absurd (omega arith)
    go (alternative o A r) c d l (f, f', f'') (x, p, a, q, m, m') =
        let z : x ≡ (alternative_at w (e - 1)).1 = λ j. (sym a j).1 in
        let u : TypeIn s w x = record { tree = A; small = q; few = omega arith; from = f'; is = m } in
        record {
          past = p;
          type = subst (TypeIn s w) z u;
          rest = record { list = r; within = omega arith; few = omega arith; long = omega arith; from = f''; is = m' };
          is = refl;
          terms = refl;
        }

-- the k-th of a list has no more terms than the list
pub alternative_terms : (s w : List ℕ) (e n k : ℕ) → k < n → type_terms (type_in s w (alternative_at w (e - k - 1)).1) ≤ alternatives_terms (alternatives_in s w e n)
unfolding type_terms
alternative_terms s w e zero k l = absurd (omega arith)
alternative_terms s w e (suc n) zero l =
    let z : e - 0 - 1 ≡ e - 1 = omega arith in
    omega (arith, ap (λ i. type_terms (type_in s w (alternative_at w i).1)) z)
alternative_terms s w e (suc n) (suc k) l =
    let z : e - 1 - k - 1 ≡ e - suc k - 1 = omega arith in
    omega (arith, alternative_terms s w (e - 1) n k (omega arith), ap (λ i. type_terms (type_in s w (alternative_at w i).1)) z)

-- ── processes
-- a process stands at the pointer p; n branches stand before the place e
pub record ProcessIn (s w : List ℕ) (p : ℕ) : Type 0 where
  pub tree : Proc
  pub few : process_terms tree ≤ (tally_in w).terms
  pub from : ProcessFrom s tree
  pub is : ProcessAt w (tally_in w) p tree

pub record BranchesIn (s w : List ℕ) (e n : ℕ) : Type 0 where
  pub list : Branches
  pub within : e ≤ (tally_in w).branches
  pub few : branches_terms list ≤ (tally_in w).terms
  pub long : n ≡ count_branches list
  pub from : BranchesFrom s list
  pub is : BranchesAt w (tally_in w) e list

abbrev pub branches_in : List ℕ → List ℕ → ℕ → ℕ → Branches
branches_in s w e n = branches_by (λ x. process_in s w x) s w e n

-- a part of the process A, at the pointer x: it stands, and has fewer terms
abbrev pub Part : List ℕ → List ℕ → Proc → ℕ → Type 0
Part s w A x = (process_terms (process_in s w x) < process_terms A) × ProcessIn s w x

abbrev Over : List ℕ → List ℕ → TermNode → Proc → (Proc → Proc) → Type 0
Over s w n A make = Part s w A n.third × (A ≡ make (process_in s w n.third))

abbrev Branching : List ℕ → List ℕ → TermNode → Proc → (Branches → Proc) → Type 0
Branching s w n A make =
    (branches_terms (branches_in s w n.second n.third) < process_terms A)
    × BranchesIn s w n.second n.third
    × (A ≡ make (branches_in s w n.second n.third))

-- a node n for the process A; an empty process has none
abbrev pub process_cases : List ℕ → List ℕ → TermNode → Proc → Cases
process_cases s w n A =
    ⊥
    or Over s w n A (λ P. send_unit n.at (name_in s n.first) P)
    or Over s w n A (λ P. send_channel n.at (name_in s n.first) (name_in s n.second) P)
    or Over s w n A (λ P. send_label n.at (name_in s n.first) (label_in s n.second) P)
    or Over s w n A (λ P. cancel n.at (name_in s n.first) P)
    or (TypeIn s w n.first × Part s w A n.second × Over s w n A (λ Q. spawn (name_in s n.at) (type_in s w n.first) (process_in s w n.second) Q))
    or Over s w n A (λ P. recv_unit n.at (name_in s n.first) P)
    or ((n.second < text_limit) × Over s w n A (λ P. recv_channel n.at (name_in s n.first) (name_in s n.second) P))
    or Branching s w n A (λ B. recv_label n.at (name_in s n.first) B)
    or (A ≡ fwd n.at (name_in s n.first) (name_in s n.second))
    or (CallAt s n.second (arguments_at s n.second).0 (arguments_at s n.second).1 × (A ≡ call n.at (name_in s n.first) n.second (arguments_at s n.second).0 (arguments_at s n.second).1))
    or Over s w n A (λ P. raise n.at P)
    or (Part s w A n.second × Over s w n A (λ Q. try n.at (process_in s w n.second) Q))
    or Cases.none

-- a pointer is to a node in the table, which says its kind, or to an empty process
pub record ProcessRoot (s w : List ℕ) (p : ℕ) (n : TermNode) (A : Proc) : Type 0 where
  pub node : p < process_term_limit → (p < (tally_in w).terms) × at_kind (process_cases s w n A) n.kind
  pub none : process_term_limit ≤ p → A ≡ empty (p - process_term_limit)

module _ (s w : List ℕ) (h : Within (tally_in w)) where
  pub process_tree : (p : ℕ) (t : ProcessIn s w p) → process_in s w p ≡ t.tree
  process_tree p t = let b = t.few in process_read s w (tally_in w) h t.tree p process_term_limit t.from t.is (omega arith)

  pub branches_tree : (e n : ℕ) (t : BranchesIn s w e n) → branches_in s w e n ≡ t.list
  branches_tree e n t =
      let b = t.few in
      ap (branches_in s w e) t.long ∙ branches_read s w (tally_in w) h t.list e process_term_limit t.from t.is (omega arith)

  -- a walk over a process is over few terms
  pub process_few : (p : ℕ) → ProcessIn s w p → process_terms (process_in s w p) ≤ process_term_limit
  process_few p t = let b = t.few in omega (arith, ap process_terms (process_tree p t))

  -- the process P of the parts of A, at the pointer x
  part_of : (x : ℕ) (P A : Proc) → process_terms P < process_terms A → process_terms A ≤ (tally_in w).terms → ProcessFrom s P → ProcessAt w (tally_in w) x P → Part s w A x × (P ≡ process_in s w x)
  part_of x P A l m t q =
      let g : ProcessIn s w x = record { tree = P; few = omega arith; from = t; is = q } in
      let r = process_tree x g in
      ((omega (arith, ap process_terms r), g), sym r)

  -- a node in the table is no empty process
  noded : (p : ℕ) (n : TermNode) (A : Proc) → p < (tally_in w).terms → at_kind (process_cases s w n A) n.kind → ProcessRoot s w p n A
  noded p n A b c = record { node = λ _. (b, c); none = λ l. absurd (omega arith) }

  process_root_of : (A : Proc) (p : ℕ) → process_terms A ≤ (tally_in w).terms → ProcessFrom s A → ProcessAt w (tally_in w) p A → ProcessRoot s w p (term_at w p) A
  unfolding ProcessAt ProcessFrom process_terms
  process_root_of (empty at) p m t e = record { node = λ l. absurd (omega arith); none = λ l. ap empty (omega arith) }
  process_root_of (send_unit at c P) p m (t, u) (x, (b, e), q) =
      let (g, r) = part_of x P (send_unit at c P) (omega arith) m u q in
      rw e (noded p (term_node 1 at c.at 0 x) (send_unit at c P) b (g, λ j. send_unit at (sym t j) (r j)))
  process_root_of (send_channel at c a P) p m (t, t', u) (x, (b, e), q) =
      let (g, r) = part_of x P (send_channel at c a P) (omega arith) m u q in
      rw e (noded p (term_node 2 at c.at a.at x) (send_channel at c a P) b (g, λ j. send_channel at (sym t j) (sym t' j) (r j)))
  process_root_of (send_label at c o P) p m (t, t', u) (x, (b, e), q) =
      let (g, r) = part_of x P (send_label at c o P) (omega arith) m u q in
      rw e (noded p (term_node 3 at c.at o.at x) (send_label at c o P) b (g, λ j. send_label at (sym t j) (sym t' j) (r j)))
  process_root_of (cancel at c P) p m (t, u) (x, (b, e), q) =
      let (g, r) = part_of x P (cancel at c P) (omega arith) m u q in
      rw e (noded p (term_node 4 at c.at 0 x) (cancel at c P) b (g, λ j. cancel at (sym t j) (r j)))
  process_root_of (recv_unit at c P) p m (t, u) (x, (b, e), q) =
      let (g, r) = part_of x P (recv_unit at c P) (omega arith) m u q in
      rw e (noded p (term_node 6 at c.at 0 x) (recv_unit at c P) b (g, λ j. recv_unit at (sym t j) (r j)))
  process_root_of (recv_channel at c a P) p m (t, t', l, u) (x, (b, e), q) =
      let (g, r) = part_of x P (recv_channel at c a P) (omega arith) m u q in
      rw e (noded p (term_node 7 at c.at a.at x) (recv_channel at c a P) b (l, (g, λ j. recv_channel at (sym t j) (sym t' j) (r j))))
  process_root_of (raise at P) p m u (x, (b, e), q) =
      let (g, r) = part_of x P (raise at P) (omega arith) m u q in
      rw e (noded p (term_node 11 at 0 0 x) (raise at P) b (g, λ j. raise at (r j)))
  process_root_of (spawn o A P Q) p m (t, t', u, u') (a, x, d, q, (y, (b, e), q')) =
      let C = spawn o A P Q in
      let f = type_in_lem s w a A t' d in
      let r : A ≡ type_in s w a = sym (type_tree s w h a f) in
      let (g, r') = part_of x P C (omega arith) m u q in
      let (i, r'') = part_of y Q C (omega arith) m u' q' in
      let z : C ≡ spawn (name_in s o.at) (type_in s w a) (process_in s w x) (process_in s w y) = λ j. spawn (sym t j) (r j) (r' j) (r'' j) in
      rw e (noded p (term_node 5 o.at a x y) C b (f, g, (i, z)))
  process_root_of (recv_label at c B) p m (t, u) (a, (b, e), l, q) =
      let f : BranchesIn s w a (count_branches B) = record { list = B; within = l; few = omega arith; long = refl; from = u; is = q } in
      let r = branches_tree a (count_branches B) f in
      rw e (noded p (term_node 8 at c.at a (count_branches B)) (recv_label at c B) b (omega (arith, ap branches_terms r), f, λ j. recv_label at (sym t j) (sym r j)))
  process_root_of (fwd at x c) p m (t, t') (b, e) = rw e (noded p (term_node 9 at x.at c.at 0) (fwd at x c) b λ j. fwd at (sym t j) (sym t' j))
  process_root_of (call at o bracket xs ys) p m (t, u) (b, e) =
      let t' = arguments_read s bracket xs ys u in
      let f = subst (λ (a : List Located × List Located). CallAt s bracket a.0 a.1) (sym t') (call_read s bracket xs ys u) in
      rw e (noded p (term_node 10 at o.at bracket 0) (call at o bracket xs ys) b (f, λ j. call at (sym t j) bracket (sym t' j).0 (sym t' j).1))
  process_root_of (try at P Q) p m (u, u') (x, q, (y, (b, e), q')) =
      let (g, r) = part_of x P (try at P Q) (omega arith) m u q in
      let (i, r') = part_of y Q (try at P Q) (omega arith) m u' q' in
      rw e (noded p (term_node 12 at 0 x y) (try at P Q) b (g, (i, λ j. try at (r j) (r' j))))

  pub process_root : (p : ℕ) → ProcessIn s w p → ProcessRoot s w p (term_at w p) (process_in s w p)
  process_root p t = subst (ProcessRoot s w p (term_at w p)) (sym (process_tree p t)) (process_root_of t.tree p t.few t.from t.is)

-- the first of a branch list that is not empty: where its label stands, and the pointer of its process
pub record FirstBranch (s w : List ℕ) (e n at pointer : ℕ) : Type 0 where
  pub past : 1 ≤ e
  pub process : ProcessIn s w pointer
  pub rest : BranchesIn s w (e - 1) n
  pub is : branches_in s w e (suc n) ≡ branch (label_in s at) (process_in s w pointer) (branches_in s w (e - 1) n)
  pub terms : branches_terms (branches_in s w e (suc n)) ≡ process_terms (process_in s w pointer) + branches_terms (branches_in s w (e - 1) n)

abbrev BranchThere : List ℕ → List ℕ → ℕ → ℕ → Type 0
BranchThere s w e n = FirstBranch s w e n (branch_at w (e - 1)).0 (branch_at w (e - 1)).1

pub first_branch : (s w : List ℕ) (e n : ℕ) → BranchesIn s w e (suc n) → BranchThere s w e n
unfolding ProcessAt ProcessFrom process_terms
first_branch s w e n t = go t.list t.within t.few t.long t.from t.is
  where
    go : (B : Branches) → e ≤ (tally_in w).branches → branches_terms B ≤ (tally_in w).terms → suc n ≡ count_branches B → BranchesFrom s B → BranchesAt w (tally_in w) e B → BranchThere s w e n
    go Branches.none c d l f m = absurd (omega arith)
    go (branch o P B) c d l (f, f', f'') (x, q, a, m, m') =
        let z : x ≡ (branch_at w (e - 1)).1 = λ j. (sym a j).1 in
        let u : ProcessIn s w x = record { tree = P; few = omega arith; from = f'; is = m } in
        record {
          past = q;
          process = subst (ProcessIn s w) z u;
          rest = record { list = B; within = omega arith; few = omega arith; long = omega arith; from = f''; is = m' };
          is = refl;
          terms = refl;
        }

-- the k-th of a list has no more terms than the list
pub branch_terms : (s w : List ℕ) (e n k : ℕ) → k < n → process_terms (process_in s w (branch_at w (e - k - 1)).1) ≤ branches_terms (branches_in s w e n)
unfolding process_terms
branch_terms s w e zero k l = absurd (omega arith)
branch_terms s w e (suc n) zero l =
    let z : e - 0 - 1 ≡ e - 1 = omega arith in
    omega (arith, ap (λ i. process_terms (process_in s w (branch_at w i).1)) z)
branch_terms s w e (suc n) (suc k) l =
    let z : e - 1 - k - 1 ≡ e - suc k - 1 = omega arith in
    omega (arith, branch_terms s w (e - 1) n k (omega arith), ap (λ i. process_terms (process_in s w (branch_at w i).1)) z)
