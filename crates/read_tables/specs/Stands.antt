-- A tree stands in the tables: each node says its kind and its parts, and each part stands. A walk over numbers goes by the terms of what it walks over.
use Rattle.std.specs.Prelude.{ℕ, suc, ◌+◌, ◌-◌, ◌<◌, ◌≤◌, ◌≡◌, List, [], ◌∷◌, length}
use Rattle.notation.specs.Tree.{Located, Ty, unit, named, tensor, par, lolli, plus, with, Alternatives, alternative, Proc, empty, send_unit, send_channel, send_label, cancel, spawn, recv_unit, recv_channel, recv_label, fwd, call, raise, try, Branches, branch, Entry, Declaration, declare_type, declare_proc, declare_exec}
use Rattle.notation.specs.Sizes.{type_terms, process_terms}
use Rattle.notation.specs.Tables.{type_node, term_node, empty_pointer, after_declaration, process_entry}
use Rattle.notation.specs.declared.reading.Tally.{Tally}
use Rattle.read_tables.specs.Decode.{node_at, alternative_at, term_at, branch_at, entry_at, type_at, exec_at, process_at}

abbrev pub count : Alternatives Located → ℕ
count Alternatives.none = 0
count (alternative l A r) = suc (count r)

-- ── types
-- a node of two parts; a node over n alternatives that end before the place a
abbrev pub InfixAt : List ℕ → Tally → ℕ → ℕ → (ℕ → Type 0) → (ℕ → Type 0) → Type 0
InfixAt w k i kind P Q = (x : ℕ) × (y : ℕ) × (node_at w i ≡ type_node kind x y) × (x < k.nodes) × (y < k.nodes) × P x × Q y

abbrev pub ChoiceAt : List ℕ → Tally → ℕ → ℕ → ℕ → (ℕ → Type 0) → Type 0
ChoiceAt w k i kind n P = (a : ℕ) × (node_at w i ≡ type_node kind a n) × (a ≤ k.alternatives) × P a

unfoldable mutual
  -- the type A stands at node i of words that are filled up to k
  pub TypeAt : List ℕ → Tally → ℕ → Ty Located → Type 0
  TypeAt w k i unit = node_at w i ≡ type_node 0 0 0
  TypeAt w k i (named n) = node_at w i ≡ type_node 1 0 n.at
  TypeAt w k i (tensor A B) = InfixAt w k i 2 (λ x. TypeAt w k x A) (λ y. TypeAt w k y B)
  TypeAt w k i (par A B) = InfixAt w k i 3 (λ x. TypeAt w k x A) (λ y. TypeAt w k y B)
  TypeAt w k i (lolli A B) = InfixAt w k i 4 (λ x. TypeAt w k x A) (λ y. TypeAt w k y B)
  TypeAt w k i (plus r) = ChoiceAt w k i 5 (count r) (λ a. AlternativesAt w k a r)
  TypeAt w k i (with r) = ChoiceAt w k i 6 (count r) (λ a. AlternativesAt w k a r)

  -- alternatives stand side by side, the first at the place before e
  pub AlternativesAt : List ℕ → Tally → ℕ → Alternatives Located → Type 0
  AlternativesAt w k e Alternatives.none = 0 ≤ 0
  AlternativesAt w k e (alternative l A r) =
      (x : ℕ) × (1 ≤ e) × (alternative_at w (e - 1) ≡ (l.at, x)) × (x < k.nodes) × TypeAt w k x A × AlternativesAt w k (e - 1) r

-- a type by itself: its node is in the table, which has room for all its terms
abbrev pub WholeAt : List ℕ → Tally → ℕ → Ty Located → Type 0
WholeAt w k x A = (x < k.nodes) × (type_terms A ≤ k.nodes) × TypeAt w k x A

-- ── processes
abbrev pub count_branches : Branches → ℕ
count_branches Branches.none = 0
count_branches (branch l P B) = suc (count_branches B)

-- a node that says these numbers; a node over one part; a node over n branches that end before the place e
abbrev pub LeafAt : List ℕ → Tally → ℕ → ℕ → ℕ → ℕ → ℕ → ℕ → Type 0
LeafAt w k p kind at first second third = (p < k.terms) × (term_at w p ≡ term_node kind at first second third)

abbrev pub OverAt : List ℕ → Tally → ℕ → ℕ → ℕ → ℕ → ℕ → (ℕ → Type 0) → Type 0
OverAt w k p kind at first second P = (x : ℕ) × LeafAt w k p kind at first second x × P x

abbrev pub LabelsAt : List ℕ → Tally → ℕ → ℕ → ℕ → ℕ → (ℕ → Type 0) → Type 0
LabelsAt w k p at first n P = (e : ℕ) × LeafAt w k p 8 at first e n × (e ≤ k.branches) × P e

unfoldable mutual
  -- the process P stands at the pointer p of words that are filled up to k
  pub ProcessAt : List ℕ → Tally → ℕ → Proc → Type 0
  ProcessAt w k p (empty at) = p ≡ empty_pointer at
  ProcessAt w k p (send_unit at c P) = OverAt w k p 1 at c.at 0 (λ x. ProcessAt w k x P)
  ProcessAt w k p (send_channel at c a P) = OverAt w k p 2 at c.at a.at (λ x. ProcessAt w k x P)
  ProcessAt w k p (send_label at c l P) = OverAt w k p 3 at c.at l.at (λ x. ProcessAt w k x P)
  ProcessAt w k p (cancel at c P) = OverAt w k p 4 at c.at 0 (λ x. ProcessAt w k x P)
  ProcessAt w k p (spawn n A P Q) =
      (a : ℕ) × (x : ℕ) × WholeAt w k a A × ProcessAt w k x P × OverAt w k p 5 n.at a x (λ y. ProcessAt w k y Q)
  ProcessAt w k p (recv_unit at c P) = OverAt w k p 6 at c.at 0 (λ x. ProcessAt w k x P)
  ProcessAt w k p (recv_channel at c a P) = OverAt w k p 7 at c.at a.at (λ x. ProcessAt w k x P)
  ProcessAt w k p (recv_label at c B) = LabelsAt w k p at c.at (count_branches B) (λ e. BranchesAt w k e B)
  ProcessAt w k p (fwd at x c) = LeafAt w k p 9 at x.at c.at 0
  ProcessAt w k p (call at n bracket xs ys) = LeafAt w k p 10 at n.at bracket 0
  ProcessAt w k p (raise at P) = OverAt w k p 11 at 0 0 (λ x. ProcessAt w k x P)
  ProcessAt w k p (try at P Q) = (x : ℕ) × ProcessAt w k x P × OverAt w k p 12 at 0 x (λ y. ProcessAt w k y Q)

  -- branches stand side by side, the first at the place before e
  pub BranchesAt : List ℕ → Tally → ℕ → Branches → Type 0
  BranchesAt w k e Branches.none = 0 ≤ 0
  BranchesAt w k e (branch l P B) = (x : ℕ) × (1 ≤ e) × (branch_at w (e - 1) ≡ (l.at, x)) × ProcessAt w k x P × BranchesAt w k (e - 1) B

-- ── declarations
-- signature entries stand side by side from the place i on
unfoldable pub EntriesAt : List ℕ → Tally → ℕ → List Entry → Type 0
EntriesAt w k i [] = 0 ≤ 0
EntriesAt w k i (e ∷ es) =
    (x : ℕ) × (i < k.entries) × (entry_at w i ≡ (e.channel.at, x)) × WholeAt w k x e.type × EntriesAt w k (i + 1) es

-- a declaration stands in its table at the place that j counts
unfoldable pub DeclarationAt : List ℕ → Tally → Tally → Declaration → Type 0
DeclarationAt w k j (declare_type n A) = (x : ℕ) × (j.types < k.types) × (type_at w j.types ≡ (n.at, x)) × WholeAt w k x A
DeclarationAt w k j (declare_proc n xs ys P) =
    (p : ℕ)
    × (j.processes < k.processes)
    × (process_at w j.processes ≡ process_entry n.at j.entries (length xs) (length ys) p)
    × EntriesAt w k j.entries xs
    × EntriesAt w k (j.entries + length xs) ys
    × (process_terms P ≤ k.terms)
    × ProcessAt w k p P
DeclarationAt w k j (declare_exec n) = (j.execs < k.execs) × (exec_at w j.execs ≡ n.at)

unfoldable pub ScriptAt : List ℕ → Tally → Tally → List Declaration → Type 0
ScriptAt w k j [] = 0 ≤ 0
ScriptAt w k j (a ∷ r) = DeclarationAt w k j a × ScriptAt w k (after_declaration a j) r
