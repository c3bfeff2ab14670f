-- Refusals 6 and 7: what each pass finds in a process.
use Prim.Native.Nat.{ℕ, suc, ◌+◌, ◌-◌, ◌<◌, ◌≤◌}
use Rattle.std.specs.Prelude.{◌≡◌, cond, eqb}
use Rattle.std.proofs.Math.Path.{refl, sym, ap}
use Rattle.std.proofs.Common.{◌∙◌, subst, arith}
use mathlib.Core.List.{List, [], ◌++◌, append-nil}
use borrow.Author.Tests.{ne_eqb}
use Rattle.notation.specs.Tree.{Located, Proc, empty, Branches}
use Rattle.notation.specs.From.{ProcessFrom}
use Rattle.notation.specs.Sizes.{process_terms, branches_terms}
use Rattle.notation.specs.Tables.{term_node}
use Rattle.notation.specs.Reader.{name_in}
use Rattle.notation.specs.declared.reading.TermNode.{TermNode}
use Rattle.notation.specs.Limits.{process_term_limit}
use Rattle.calculus.specs.Program.{Program}
use Rattle.calculus.specs.Declarations.{unless_defined, branch_labels, process_repeats, branches_repeats, process_undefined, branches_undefined}
use Rattle.read_tables.specs.declared.access.Labelled.{Labelled}
use Rattle.read_tables.specs.Access.{BranchOf, TermOf}
use Rattle.read_tables.specs.Decode.{numbered, branch_at, process_in}
use Rattle.read_tables.specs.Program.{program_in}
use Rattle.read_tables.specs.Roots.{Cases, Handlers, each_kind, TypeIn, ProcessIn, BranchesIn, branches_in, process_root, process_cases, at_kind}
use Rattle.read_tables.specs.Stands.{ProcessAt}
use Rattle.read_tables.specs.Whole.{Tables}
use Rattle.check_declarations.specs.Faults.{label_faults, faults_in, by_pass}
use Rattle.check_declarations.specs.Kinds.{◌next◌}
use Rattle.check_declarations.specs.Listed.{down, by_steps, branch_labels_lem}
use Rattle.check_declarations.specs.declared.processes.Parts.{Parts}
use Rattle.check_declarations.specs.declared.processes.Parts.TheVariants.{Leaf, Third, Both, Branches as BranchList}
use Rattle.check_declarations.specs.declared.faults.Pass.{Pass}
use Rattle.check_declarations.specs.declared.faults.Pass.TheVariants.{Repeated, Undefined}
use Rattle.check_declarations.specs.declared.names.Names.TheVariants.{Branches as BranchesFrom}
use Rattle.check_declarations.specs.Lowest.{Lowest, Lowered, lowered_as, lowered_none, Walking, walk_end, Left, left_all, left_as, left_after, left_done, over}
use Rattle.check_declarations.specs.Names.{name_of}

abbrev pub call_faults : Pass → Program → Located → List ℕ
call_faults Repeated p n = []
call_faults Undefined p n = unless_defined p.processes n

abbrev pub process_faults : Pass → Program → Proc → List ℕ
process_faults Repeated p P = process_repeats P
process_faults Undefined p P = process_undefined p P

abbrev pub branches_faults : Pass → Program → Branches → List ℕ
branches_faults Repeated p B = branches_repeats B
branches_faults Undefined p B = branches_undefined p B

-- which parts of a node of each kind are processes
unfoldable pub parts_of : ℕ → Parts
parts_of k =
    cond (eqb k 5) Both
    (cond (eqb k 8) BranchList
    (cond (eqb k 9) Leaf
    (cond (eqb k 10) Leaf
    (cond (eqb k 12) Both Third))))

-- the pointer of what follows a node with these parts: of an empty process, where nothing does
abbrev pub followed_at : Parts → TermNode → ℕ
followed_at Leaf n = process_term_limit
followed_at Third n = n.third
followed_at Both n = n.third
followed_at BranchList n = process_term_limit

-- what stands in its brackets, and how many terms that has
module _ (s w : List ℕ) where
  abbrev pub InnerIn : Parts → TermNode → Type 0
  InnerIn Leaf n = Unit {0}
  InnerIn Third n = Unit {0}
  InnerIn Both n = ProcessIn s w n.second
  InnerIn BranchList n = BranchesIn s w n.second n.third

  abbrev pub inner_terms : Parts → TermNode → ℕ
  inner_terms Leaf n = 0
  inner_terms Third n = 0
  inner_terms Both n = process_terms (process_in s w n.second)
  inner_terms BranchList n = branches_terms (branches_in s w n.second n.third)

module _ (s w : List ℕ) (pass : Pass) where
  abbrev pub process_faults_in : ℕ → List ℕ
  process_faults_in p = process_faults pass (program_in s w) (process_in s w p)

  -- those of the branch k before the place e
  abbrev pub branch_faults : ℕ → ℕ → List ℕ
  branch_faults e k = process_faults_in (branch_at w (e - k - 1)).1

  branches_over : (e n : ℕ) → over (branch_faults e) 0 n ≡ branches_faults pass (program_in s w) (branches_in s w e n)
  unfolding process_repeats process_undefined
  branches_over e n =
      let made : Pass → ℕ → ℕ → List ℕ = λ q x m. branches_faults q (program_in s w) (branches_in s w x m) in
      let one : Pass → ℕ → List ℕ = λ q x. process_faults q (program_in s w) (process_in s w (branch_at w (x - 1)).1) in
      sym
      (by_steps down ◌++◌ [] (one pass) (made pass) (λ x. by_pass (λ q. made q x 0) (λ q. []) refl refl pass)
      (λ x m. by_pass (λ q. made q x (suc m)) (λ q. one q x ++ made q (x - 1) m) refl refl pass) n e)

  pub branches_done : (e n : ℕ) {low k : Lowest} {i : ℕ} → Walking (branch_faults e) low n i k → n ≤ i
      → Lowered low (branches_faults pass (program_in s w) (branches_in s w e n)) k
  branches_done e n t h = lowered_as (branches_over e n) (walk_end t h)

  pub branch_walked : (e k : ℕ) {r : Labelled} {l m : Lowest} → BranchOf w (e - k) r → Lowered l (process_faults_in r.number) m → Lowered l (branch_faults e k) m
  branch_walked e k o = lowered_as (ap process_faults_in o.holds.number)

  -- what a node of the kind k has itself
  unfoldable pub own_faults : ℕ → TermNode → List ℕ
  own_faults k n =
      cond (eqb k 5) (faults_in s w pass n.first)
      (cond (eqb k 8) (label_faults pass (numbered (name_of s w (BranchesFrom n.second)) 0 n.third))
      (cond (eqb k 10) (call_faults pass (program_in s w) (name_in s n.first)) []))

  abbrev pub node_faults : TermNode → List ℕ
  node_faults n = own_faults n.kind n

  -- what both passes find in a process A
  adds : (A : Proc) (f : Pass → List ℕ) (B : Proc) → A ≡ B
      → f Repeated ≡ process_repeats B → f Undefined ≡ process_undefined (program_in s w) B → f pass ≡ process_faults pass (program_in s w) A
  adds A f B e r u = by_pass f (λ q. process_faults q (program_in s w) B) r u pass ∙ ap (process_faults pass (program_in s w)) (sym e)

  -- what a node with these parts has in brackets
  abbrev pub inner_faults : Parts → TermNode → List ℕ
  inner_faults Leaf n = []
  inner_faults Third n = []
  inner_faults Both n = process_faults_in n.second
  inner_faults BranchList n = branches_faults pass (program_in s w) (branches_in s w n.second n.third)

  -- what stands at a pointer past the table is nothing
  no_process : Tables s w → (p : ℕ) → process_term_limit ≤ p → ProcessIn s w p → [] ≡ process_faults_in p
  unfolding process_repeats process_undefined
  no_process t p b a = adds (process_in s w p) (λ q. []) _ ((process_root s w t.within p a).none b) refl refl

  -- what a node has itself, by its kind
  module _ (n : TermNode) where
    at_kind_lem : (m : ℕ) → n.kind ≡ m → own_faults m n ≡ node_faults n
    at_kind_lem m e = ap (λ x. own_faults x n) (sym e)

    pub own_type_lem : {l k : Lowest} → n.kind ≡ 5 → Lowered l (faults_in s w pass n.first) k → Lowered l (node_faults n) k
    unfolding own_faults
    own_type_lem e = lowered_as (at_kind_lem 5 e)

    pub own_labels : {l k : Lowest} → n.kind ≡ 8 → Lowered l (label_faults pass (numbered (name_of s w (BranchesFrom n.second)) 0 n.third)) k → Lowered l (node_faults n) k
    unfolding own_faults
    own_labels e = lowered_as (at_kind_lem 8 e)

    pub own_call : {l k : Lowest} → n.kind ≡ 10 → Lowered l (call_faults pass (program_in s w) (name_in s n.first)) k → Lowered l (node_faults n) k
    unfolding own_faults
    own_call e = lowered_as (at_kind_lem 10 e)

  pub own_none : (n : TermNode) {l : Lowest} → (n.kind ≡ 5 → ⊥) → (n.kind ≡ 8 → ⊥) → (n.kind ≡ 10 → ⊥) → Lowered l (node_faults n) l
  unfolding own_faults
  own_none n a b c = lowered_as (rw (ne_eqb _ _ a, ne_eqb _ _ b, ne_eqb _ _ c) refl) lowered_none

-- ── what a node with these parts says of its process A
pub record Faulty (s w : List ℕ) (pass : Pass) (n : TermNode) (parts : Parts) (A : Proc) : Type 0 where
  pub is : node_faults s w pass n ++ (inner_faults s w pass parts n ++ process_faults_in s w pass (followed_at parts n)) ≡ process_faults pass (program_in s w) A
  pub inner : InnerIn s w parts n
  pub last : ProcessIn s w (followed_at parts n)
  pub terms : process_terms A ≡ suc (inner_terms s w parts n + process_terms (process_in s w (followed_at parts n)))

-- an empty process stands at the pointer of no term
nothing_there : (s w : List ℕ) → ProcessIn s w process_term_limit
unfolding ProcessAt ProcessFrom process_terms
nothing_there s w = record { tree = empty 0; few = omega arith; from = omega arith; is = refl }

module _ (s w : List ℕ) (pass : Pass) (A : Proc) (at first second third : ℕ) (none : process_in s w process_term_limit ≡ empty 0) where
  abbrev node : ℕ → TermNode
  node k = term_node k at first second third

  -- what is found at a node and in all its parts
  abbrev whole : ℕ → Parts → Pass → List ℕ
  whole k m q = node_faults s w q (node k) ++ (inner_faults s w q m (node k) ++ process_faults_in s w q (followed_at m (node k)))

  -- a process follows the node
  goes_on_lem : (k : ℕ) (m : Parts) (B : Proc) → A ≡ B → whole k m Repeated ≡ process_repeats B → whole k m Undefined ≡ process_undefined (program_in s w) B
      → InnerIn s w m (node k) → ProcessIn s w (followed_at m (node k))
      → process_terms B ≡ suc (inner_terms s w m (node k) + process_terms (process_in s w (followed_at m (node k)))) → Faulty s w pass (node k) m A
  goes_on_lem k m B e r u f g t = record { is = adds s w pass A (whole k m) B e r u; inner = f; last = g; terms = ap process_terms e ∙ t }

  -- nothing follows it
  nothing_found : process_faults_in s w pass process_term_limit ≡ []
  unfolding process_repeats process_undefined
  nothing_found = sym (adds s w pass (process_in s w process_term_limit) (λ q. []) _ none refl refl)

  no_terms : process_terms (process_in s w process_term_limit) ≡ 0
  unfolding process_terms
  no_terms = ap process_terms none

  ends : (k : ℕ) (m : Parts) → followed_at m (node k) ≡ process_term_limit
      → node_faults s w pass (node k) ++ inner_faults s w pass m (node k) ≡ process_faults pass (program_in s w) A → InnerIn s w m (node k)
      → process_terms A ≡ suc (inner_terms s w m (node k)) → Faulty s w pass (node k) m A
  ends k m z e f t = record {
    is = ap (λ l. node_faults s w pass (node k) ++ (inner_faults s w pass m (node k) ++ l)) (ap (process_faults_in s w pass) z ∙ nothing_found)
        ∙ ap (◌++◌ (node_faults s w pass (node k))) (append-nil (inner_faults s w pass m (node k)))
        ∙ e;
    inner = f;
    last = subst (ProcessIn s w) (sym z) (nothing_there s w);
    terms = omega (arith, t, ap (λ p. process_terms (process_in s w p)) z, no_terms);
  }

  abbrev branchly : Pass → List ℕ
  branchly q = label_faults q (branch_labels (branches_in s w second third)) ++ branches_faults q (program_in s w) (branches_in s w second third)

  labels_listed : label_faults pass (numbered (name_of s w (BranchesFrom second)) 0 third) ++ branches_faults pass (program_in s w) (branches_in s w second third) ≡ branchly pass
  labels_listed = ap (λ l. label_faults pass l ++ branches_faults pass (program_in s w) (branches_in s w second third)) (branch_labels_lem s w second third)

  abbrev called : Pass → List ℕ
  called q = call_faults q (program_in s w) (name_in s first)

  abbrev At : ℕ → Type 0
  At k = Faulty s w pass (node k) (parts_of k) A

  cases : Handlers (process_cases s w (node 0) A) At
  unfolding parts_of own_faults process_repeats process_undefined process_terms
  cases =
      (λ e. absurd e)
      next (λ (f, e). goes_on_lem 1 Third _ e refl refl tt f.1 (omega arith))
      next (λ (f, e). goes_on_lem 2 Third _ e refl refl tt f.1 (omega arith))
      next (λ (f, e). goes_on_lem 3 Third _ e refl refl tt f.1 (omega arith))
      next (λ (f, e). goes_on_lem 4 Third _ e refl refl tt f.1 (omega arith))
      next (λ (t, f, (g, e)). goes_on_lem 5 Both _ e refl refl f.1 g.1 refl)
      next (λ (f, e). goes_on_lem 6 Third _ e refl refl tt f.1 (omega arith))
      next (λ (l, (f, e)). goes_on_lem 7 Third _ e refl refl tt f.1 (omega arith))
      next (λ (l, f, e). ends 8 BranchList refl (labels_listed ∙ adds s w pass A branchly _ e refl refl) f (ap process_terms e))
      next (λ e. ends 9 Leaf refl (adds s w pass A (λ q. []) _ e refl refl) tt (ap process_terms e))
      next (λ (c, e). ends 10 Leaf refl (append-nil (called pass) ∙ adds s w pass A called _ e refl refl) tt (ap process_terms e))
      next (λ (f, e). goes_on_lem 11 Third _ e refl refl tt f.1 (omega arith))
      next (λ (f, (g, e)). goes_on_lem 12 Both _ e refl refl f.1 g.1 refl)
      next tt

module _ {s w : List ℕ} {p : ℕ} {n : TermNode} (t : Tables s w) (b : p < process_term_limit) (a : ProcessIn s w p) (o : TermOf w p n) where
  abbrev Here : Cases
  Here = process_cases s w n (process_in s w p)

  here : at_kind Here n.kind
  here = ((o.says s t a).node b).1

  pub spawn_type : n.kind ≡ 5 → TypeIn s w n.first
  spawn_type e = (subst (at_kind Here) e here).0

  pub recv_branches : n.kind ≡ 8 → BranchesIn s w n.second n.third
  recv_branches e = (subst (at_kind Here) e here).1

  faulty : (pass : Pass) (m : Parts) → m ≡ parts_of n.kind → Faulty s w pass n m (process_in s w p)
  faulty pass m z =
      let none = (process_root s w t.within process_term_limit (nothing_there s w)).none (omega arith) in
      let A = process_in s w p in
      subst (λ m. Faulty s w pass n m A) (sym z)
      (each_kind Here (At s w pass A n.at n.first n.second n.third none)
      (cases s w pass A n.at n.first n.second n.third none) n.kind here)

-- ── as far as the walk over a process has come: what is found from here on is what is left of the whole
pub record Following (s w : List ℕ) (pass : Pass) (whole : ℕ) (low : Lowest) (p : ℕ) (l : Lowest) : Type 0 where
  pub stands : ProcessIn s w p
  pub fewer : process_terms (process_in s w p) ≤ process_terms (process_in s w whole)
  pub left : Left low (process_faults_in s w pass whole) l (process_faults_in s w pass p)

module _ {s w : List ℕ} {pass : Pass} {whole : ℕ} {low : Lowest} where
  pub follow_start : ProcessIn s w whole → Following s w pass whole low whole low
  follow_start a = record { stands = a; fewer = omega arith; left = left_all }

  module _ {p : ℕ} {l : Lowest} (t : Following s w pass whole low p l) where
    pub follow_node : {n : TermNode} {m : Parts} → Tables s w → p < process_term_limit → TermOf w p n → m ≡ parts_of n.kind → Faulty s w pass n m (process_in s w p)
    follow_node u b o z = faulty u b t.stands o pass _ z

    pub follow_on : {n : TermNode} {m : Parts} {k r : Lowest} (q : ℕ) → Faulty s w pass n m (process_in s w p)
        → Lowered l (node_faults s w pass n) k → Lowered k (inner_faults s w pass m n) r → q ≡ followed_at m n → Following s w pass whole low q r
    follow_on q o f g z =
        let rest = left_after (left_after (left_as (sym o.is) t.left) f) g in
        rw z (record { stands = o.last; fewer = omega (arith, o.terms, t.fewer); left = rest })

    pub follow_end : Tables s w → process_term_limit ≤ p → Lowered low (process_faults_in s w pass whole) l
    follow_end u b = left_done t.left (lowered_as (no_process s w pass u p b t.stands) lowered_none)

-- ── what stands in brackets, where a node's parts m are x
pub record InnerAt (n : TermNode) (s w : List ℕ) (m x : Parts) : Type 0 where
  pub terms : inner_terms s w m n ≡ inner_terms s w x n
  pub stands : InnerIn s w m n → InnerIn s w x n

pub inner_at : (n : TermNode) (s w : List ℕ) {m : Parts} (x : Parts) → m ≡ x → InnerAt n s w m x
inner_at n s w x e = record { terms = ap (λ q. inner_terms s w q n) e; stands = subst (λ q. InnerIn s w q n) e }

pub inner_found : (s w : List ℕ) (pass : Pass) (n : TermNode) {m : Parts} (x : Parts) {l k : Lowest} → m ≡ x
    → Lowered l (inner_faults s w pass x n) k → Lowered l (inner_faults s w pass m n) k
inner_found s w pass n x e = lowered_as (ap (λ q. inner_faults s w pass q n) (sym e))

-- ── a call, by the pass
module _ (p : Program) (n : Located) {pass : Pass} {low : Lowest} where
  pub call_passed : pass ≡ Repeated → Lowered low (call_faults pass p n) low
  call_passed e = lowered_as (ap (λ (q : Pass). call_faults q p n) (sym e)) lowered_none

  pub call_sought : {k : Lowest} → pass ≡ Undefined → Lowered low (unless_defined p.processes n) k → Lowered low (call_faults pass p n) k
  call_sought e = lowered_as (ap (λ (q : Pass). call_faults q p n) (sym e))
