-- What is written leaves alone what stood before: the frame law of the tables, once for all of them.
use Rattle.std.specs.Prelude.{ℕ, ◌+◌, ◌*◌, ◌<◌, ◌≤◌, ◌≡◌, refl, List, length, set}
use Rattle.std.proofs.Common.{◌∙◌, rules, length-set, get_or-set_other}
use Rattle.std.proofs.Math.Path.{ap}
use native.Mathlib.Omega.{arith}
use Rattle.std.proofs.Math.ListN.{get_or}
use Rattle.notation.specs.Tables.{types_at, processes_at, execs_at, entries_at, nodes_at, alternatives_at, terms_at, branches_at, lasting, more_nodes, more_alternatives, more_terms, more_branches, more_entries, more_types, more_processes, more_execs, put_node, put_alternative, put_term, put_branch, put_entry, put_type, put_process, put_exec, term_word, write_counts, provided_radix, Within}
use Rattle.notation.specs.declared.reading.Tally.{Tally}
use Rattle.notation.specs.declared.reading.TypeNode.{TypeNode}
use Rattle.notation.specs.declared.reading.TermNode.{TermNode}
use Rattle.notation.specs.declared.reading.ProcessEntry.{ProcessEntry}
use Rattle.read_tables.specs.Decode.{type_node_of, term_node_of, pair_of, node_at, alternative_at, term_at, branch_at, entry_at, type_at, exec_at, process_entry_of, process_at}

-- each table has as many entries as before, or more
abbrev pub Upto : Tally → Tally → Type 0
Upto k l =
    (k.types ≤ l.types)
    × (k.processes ≤ l.processes)
    × (k.execs ≤ l.execs)
    × (k.entries ≤ l.entries)
    × (k.nodes ≤ l.nodes)
    × (k.alternatives ≤ l.alternatives)
    × (k.terms ≤ l.terms)
    × (k.branches ≤ l.branches)

abbrev Apart : ℕ → ℕ → ℕ → Type 0
Apart lo hi j = lo ≤ j → j < hi → ⊥

-- the word j is of no entry that l has and k has not, and no count: these are written last
pub record Outside (k l : Tally) (j : ℕ) : Type 0 where
  pub counts : types_at ≤ j
  pub types : Apart (types_at + 2 * k.types) (types_at + 2 * l.types) j
  pub processes : Apart (processes_at + 4 * k.processes) (processes_at + 4 * l.processes) j
  pub execs : Apart (execs_at + k.execs) (execs_at + l.execs) j
  pub entries : Apart (entries_at + k.entries) (entries_at + l.entries) j
  pub nodes : Apart (nodes_at + k.nodes) (nodes_at + l.nodes) j
  pub alternatives : Apart (alternatives_at + k.alternatives) (alternatives_at + l.alternatives) j
  pub terms : Apart (terms_at + 2 * k.terms) (terms_at + 2 * l.terms) j
  pub branches : Apart (branches_at + k.branches) (branches_at + l.branches) j

-- words w filled up to k came to be v filled up to l by appending
pub record Grown (k l : Tally) (w v : List ℕ) : Type 0 where
  pub more : Upto k l
  pub long : length v ≡ length w
  pub kept : (j : ℕ) → Outside k l j → get_or v j 0 ≡ get_or w j 0

-- ── it composes
first_of : {lo hi j : ℕ} (m : ℕ) → m ≤ hi → Apart lo hi j → Apart lo m j
first_of m h f a b = f a (omega arith)

second_of : {lo hi j : ℕ} (m : ℕ) → lo ≤ m → Apart lo hi j → Apart m hi j
second_of m h f a b = f (omega arith) b

module _ {k l m : Tally} {j : ℕ} (p : Upto k l) (q : Upto l m) (o : Outside k m j) where
  outside_first : Outside k l j
  outside_first = record {
    counts = o.counts;
    types = first_of _ (omega arith) o.types;
    processes = first_of _ (omega arith) o.processes;
    execs = first_of _ (omega arith) o.execs;
    entries = first_of _ (omega arith) o.entries;
    nodes = first_of _ (omega arith) o.nodes;
    alternatives = first_of _ (omega arith) o.alternatives;
    terms = first_of _ (omega arith) o.terms;
    branches = first_of _ (omega arith) o.branches;
  }

  outside_second : Outside l m j
  outside_second = record {
    counts = o.counts;
    types = second_of _ (omega arith) o.types;
    processes = second_of _ (omega arith) o.processes;
    execs = second_of _ (omega arith) o.execs;
    entries = second_of _ (omega arith) o.entries;
    nodes = second_of _ (omega arith) o.nodes;
    alternatives = second_of _ (omega arith) o.alternatives;
    terms = second_of _ (omega arith) o.terms;
    branches = second_of _ (omega arith) o.branches;
  }

pub grown_then : {k l m : Tally} {w v x : List ℕ} → Grown k l w v → Grown l m v x → Grown k m w x
grown_then {k = k} {l = l} {m = m} f g =
    let p = f.more in
    let q = g.more in
    record {
      more = omega arith;
      long = g.long ∙ f.long;
      kept = λ j o. g.kept j (outside_second {k = k} {l = l} {m = m} p q o) ∙ f.kept j (outside_first {k = k} {l = l} {m = m} p q o);
    }

-- ── none more, or one
pub grown_none : (k : Tally) (w : List ℕ) → Grown k k w w
grown_none k w = record { more = omega arith; long = refl; kept = λ j o. refl }

pub grown_lasting : (n : ℕ) (k : Tally) (w : List ℕ) → Grown k (lasting n k) w w
grown_lasting n k w = record { more = omega arith; long = refl; kept = λ j o. refl }

pub grown_node : (k : Tally) (w : List ℕ) (n : TypeNode) → Grown k (more_nodes k) w (put_node w k.nodes n)
unfolding put_node
grown_node k w n = record {
  more = omega arith;
  long = length-set w _ _;
  kept = λ j o. get_or-set_other w _ j _ 0 (λ e. o.nodes (omega arith) (omega arith));
}

pub grown_alternative : (k : Tally) (w : List ℕ) (at n : ℕ) → Grown k (more_alternatives k) w (put_alternative w k.alternatives at n)
unfolding put_alternative
grown_alternative k w at n = record {
  more = omega arith;
  long = length-set w _ _;
  kept = λ j o. get_or-set_other w _ j _ 0 (λ e. o.alternatives (omega arith) (omega arith));
}

pub grown_branch : (k : Tally) (w : List ℕ) (at n : ℕ) → Grown k (more_branches k) w (put_branch w k.branches at n)
unfolding put_branch
grown_branch k w at n = record {
  more = omega arith;
  long = length-set w _ _;
  kept = λ j o. get_or-set_other w _ j _ 0 (λ e. o.branches (omega arith) (omega arith));
}

pub grown_term : (k : Tally) (w : List ℕ) (n : TermNode) → Grown k (more_terms k) w (put_term w k.terms n)
unfolding put_term
grown_term k w n =
    let v = set w (terms_at + 2 * k.terms) (term_word n) in
    record {
      more = omega arith;
      long = length-set v _ _ ∙ length-set w _ _;
      kept = λ j o.
          get_or-set_other v _ j _ 0 (λ e. o.terms (omega arith) (omega arith)) ∙ get_or-set_other w _ j _ 0 (λ e. o.terms (omega arith) (omega arith));
    }

pub grown_entry : (k : Tally) (w : List ℕ) (at n : ℕ) → Grown k (more_entries k) w (put_entry w k.entries at n)
unfolding put_entry
grown_entry k w at n = record {
  more = omega arith;
  long = length-set w _ _;
  kept = λ j o. get_or-set_other w _ j _ 0 (λ e. o.entries (omega arith) (omega arith));
}

pub grown_exec : (k : Tally) (w : List ℕ) (at : ℕ) → Grown k (more_execs k) w (put_exec w k.execs at)
unfolding put_exec
grown_exec k w at = record {
  more = omega arith;
  long = length-set w _ _;
  kept = λ j o. get_or-set_other w _ j _ 0 (λ e. o.execs (omega arith) (omega arith));
}

pub grown_type : (k : Tally) (w : List ℕ) (at n : ℕ) → Grown k (more_types k) w (put_type w k.types at n)
unfolding put_type
grown_type k w at n =
    let v = set w (types_at + 2 * k.types) at in
    record {
      more = omega arith;
      long = length-set v _ _ ∙ length-set w _ _;
      kept = λ j o.
          get_or-set_other v _ j _ 0 (λ e. o.types (omega arith) (omega arith)) ∙ get_or-set_other w _ j _ 0 (λ e. o.types (omega arith) (omega arith));
    }

-- a number put in one word of a process's entry
grown_at : (k : Tally) (w : List ℕ) (t x : ℕ) → t < 4 → Grown k (more_processes k) w (set w (processes_at + 4 * k.processes + t) x)
grown_at k w t x l = record {
  more = omega arith;
  long = length-set w _ _;
  kept = λ j o. get_or-set_other w _ j _ 0 (λ e. o.processes (omega arith) (omega arith));
}

-- what is put twice into the same new entries
grown_same : {k l : Tally} {w v x : List ℕ} → Grown k l w v → Grown k l v x → Grown k l w x
grown_same f g = record { more = f.more; long = g.long ∙ f.long; kept = λ j o. g.kept j o ∙ f.kept j o }

pub grown_process : (k : Tally) (w : List ℕ) (p : ProcessEntry) → Grown k (more_processes k) w (put_process w k.processes p)
unfolding put_process
grown_process k w p =
    let i = processes_at + 4 * k.processes in
    let z : i + 0 ≡ i = omega arith in
    let w₀ = set w i p.at in
    let w₁ = set w₀ (i + 1) p.first in
    let w₂ = set w₁ (i + 2) (p.provided + provided_radix * p.used) in
    let g₀ : Grown k (more_processes k) w w₀ = rw z at (grown_at k w 0 p.at (omega arith)) in
    grown_same g₀ (grown_same (grown_at k w₀ 1 p.first (omega arith)) (grown_same (grown_at k w₁ 2 (p.provided + provided_radix * p.used) (omega arith)) (grown_at k w₂ 3 p.body (omega arith))))

-- the counts, which no entry depends on
count_set : (k : Tally) (w : List ℕ) (i x : ℕ) → i < 16 → Grown k k w (set w i x)
count_set k w i x l = record { more = omega arith; long = length-set w _ _; kept = λ j o. let c = o.counts in get_or-set_other w i j x 0 (omega arith) }

pub grown_counts : (k : Tally) (w : List ℕ) → Grown k k w (write_counts k w)
unfolding write_counts
grown_counts k w =
    let w₀ = set w 0 k.types in
    let w₁ = set w₀ 1 k.processes in
    let w₂ = set w₁ 2 k.execs in
    let w₃ = set w₂ 3 k.entries in
    let w₄ = set w₃ 4 k.nodes in
    let w₅ = set w₄ 5 k.alternatives in
    let w₆ = set w₅ 6 k.terms in
    grown_then (count_set k w 0 _ (omega arith)) (grown_then (count_set k w₀ 1 _ (omega arith)) (grown_then (count_set k w₁ 2 _ (omega arith))
    (grown_then (count_set k w₂ 3 _ (omega arith)) (grown_then (count_set k w₃ 4 _ (omega arith)) (grown_then (count_set k w₄ 5 _ (omega arith))
    (grown_then (count_set k w₅ 6 _ (omega arith)) (count_set k w₆ 7 _ (omega arith))))))))

-- ── an entry that stood before stands still
module _ {k l : Tally} {w v : List ℕ} (g : Grown k l w v) (h : Within l) (i : ℕ) where
  pub node_kept : i < k.nodes → node_at v i ≡ node_at w i
  unfolding node_at
  node_kept b = let p = g.more in ap type_node_of (g.kept (nodes_at + i) (search rules))

  pub alternative_kept : i < k.alternatives → alternative_at v i ≡ alternative_at w i
  unfolding alternative_at
  alternative_kept b = let p = g.more in ap pair_of (g.kept (alternatives_at + i) (search rules))

  -- either word of a process node
  word_kept : (t : ℕ) → t < 2 → i < k.terms → get_or v (terms_at + 2 * i + t) 0 ≡ get_or w (terms_at + 2 * i + t) 0
  word_kept t c b = let p = g.more in g.kept (terms_at + 2 * i + t) (search rules)

  pub term_kept : i < k.terms → term_at v i ≡ term_at w i
  unfolding term_at
  term_kept b = let p : terms_at + 2 * i + 0 ≡ terms_at + 2 * i = omega arith in
      let q : get_or v (terms_at + 2 * i) 0 ≡ get_or w (terms_at + 2 * i) 0 = rw p at (word_kept 0 (omega arith) b) in
      let r = word_kept 1 (omega arith) b in
      λ j. term_node_of (q j) (r j)

  pub branch_kept : i < k.branches → branch_at v i ≡ branch_at w i
  unfolding branch_at
  branch_kept b = let p = g.more in ap pair_of (g.kept (branches_at + i) (search rules))

  pub entry_kept : i < k.entries → entry_at v i ≡ entry_at w i
  unfolding entry_at
  entry_kept b = let p = g.more in ap pair_of (g.kept (entries_at + i) (search rules))

  pub exec_kept : i < k.execs → exec_at v i ≡ exec_at w i
  unfolding exec_at
  exec_kept b = let p = g.more in g.kept (execs_at + i) (search rules)

  type_word_kept : (t : ℕ) → t < 2 → i < k.types → get_or v (types_at + 2 * i + t) 0 ≡ get_or w (types_at + 2 * i + t) 0
  type_word_kept t c b = let p = g.more in g.kept (types_at + 2 * i + t) (search rules)

  pub type_entry_kept : i < k.types → type_at v i ≡ type_at w i
  unfolding type_at
  type_entry_kept b =
      let p : types_at + 2 * i + 0 ≡ types_at + 2 * i = omega arith in
      let q : get_or v (types_at + 2 * i) 0 ≡ get_or w (types_at + 2 * i) 0 = rw p at (type_word_kept 0 (omega arith) b) in
      let r = type_word_kept 1 (omega arith) b in
      λ j. (q j, r j)

  process_word_kept : (t : ℕ) → t < 4 → i < k.processes → get_or v (processes_at + 4 * i + t) 0 ≡ get_or w (processes_at + 4 * i + t) 0
  process_word_kept t c b = let p = g.more in g.kept (processes_at + 4 * i + t) (search rules)

  pub process_entry_kept : i < k.processes → process_at v i ≡ process_at w i
  unfolding process_at
  process_entry_kept b =
      let p : processes_at + 4 * i + 0 ≡ processes_at + 4 * i = omega arith in
      let q : get_or v (processes_at + 4 * i) 0 ≡ get_or w (processes_at + 4 * i) 0 = rw p at (process_word_kept 0 (omega arith) b) in
      let r = process_word_kept 1 (omega arith) b in
      let t = process_word_kept 2 (omega arith) b in
      let u = process_word_kept 3 (omega arith) b in
      λ j. process_entry_of (q j) (r j) (t j) (u j)
