-- The words of the tables: a fold over the trees that were read, front to back.
-- A node has the number that its own mark or keyword has among those of the text: a choice and a process term come before their parts, an infix
-- type between them. So what follows a term is the next node, or an empty process, and the next token tells which.
use Rattle.std.specs.Prelude.{ℕ, ◌+◌, ◌*◌, ◌≤◌, List, [], ◌∷◌, length, set, replicate, ◌≡◌}
use Rattle.notation.specs.Limits.{process_term_limit, scratch_words, type_limit, process_limit, exec_limit, type_term_limit}
use Rattle.notation.specs.Tree.{Located, Ty, unit, named, tensor, par, lolli, plus, with, Alternatives, alternative, Proc, empty, send_unit, send_channel, send_label, cancel, spawn, recv_unit, recv_channel, recv_label, fwd, call, raise, try, Branches, branch, Entry, Declaration, declare_type, declare_proc, declare_exec}
use Rattle.notation.specs.Reader.{Result, got, refused}
use Rattle.notation.specs.Scripts.{read_text}
use Rattle.notation.specs.declared.reading.Cursor.{Cursor}
use Rattle.notation.specs.declared.reading.Tally.{Tally}
use Rattle.notation.specs.declared.reading.TypeNode.{TypeNode}
use Rattle.notation.specs.declared.reading.TermNode.{TermNode}
use Rattle.notation.specs.declared.reading.ProcessEntry.{ProcessEntry}

-- ── where each table begins: 16 words, of which the first eight are the counts, then 64 × 2 types, 64 × 4 processes, 16 execs, 512 signature entries, 512 type nodes,
-- 512 alternatives, 1,024 × 2 process nodes, 1,640 branches; 5,640 words in all
abbrev pub types_at : ℕ
types_at = 16

abbrev pub processes_at : ℕ
processes_at = 144

abbrev pub execs_at : ℕ
execs_at = 400

abbrev pub entries_at : ℕ
entries_at = 416

abbrev pub nodes_at : ℕ
nodes_at = 928

abbrev pub alternatives_at : ℕ
alternatives_at = 1440

abbrev pub terms_at : ℕ
terms_at = 1952

abbrev pub branches_at : ℕ
branches_at = 4000

-- how many branches there is room for, which no text passes, since a branch takes five bytes at least; the words of all tables
abbrev pub branch_room : ℕ
branch_room = 1640

abbrev pub table_words : ℕ
table_words = 5640

-- a word that holds several numbers: by what each is told from the next, and the unit of one that follows two others
abbrev pub offset_radix : ℕ
offset_radix = 8192

abbrev pub type_kind_radix : ℕ
type_kind_radix = 8

abbrev pub type_first_radix : ℕ
type_first_radix = 1024

abbrev pub type_second_unit : ℕ
type_second_unit = 8192

abbrev pub term_kind_radix : ℕ
term_kind_radix = 16

abbrev pub term_first_unit : ℕ
term_first_unit = 131072

abbrev pub pointer_radix : ℕ
pointer_radix = 16384

abbrev pub provided_radix : ℕ
provided_radix = 1024

-- ── one entry of each table
-- a type node: its kind, and two numbers below 1,024 and 524,288
unfoldable pub type_word : TypeNode → ℕ
type_word n = n.kind + type_kind_radix * n.first + type_second_unit * n.second

-- a process node: its kind, its offset and three numbers, in two words
unfoldable pub term_word : TermNode → ℕ
term_word n = n.kind + term_kind_radix * n.at + term_first_unit * n.first

unfoldable pub term_word' : TermNode → ℕ
term_word' n = n.second + pointer_radix * n.third

-- a name or label with what belongs to it
unfoldable pub pair_word : ℕ → ℕ → ℕ
pair_word at n = at + offset_radix * n

unfoldable pub put_node : List ℕ → ℕ → TypeNode → List ℕ
put_node w i n = set w (nodes_at + i) (type_word n)

unfoldable pub put_term : List ℕ → ℕ → TermNode → List ℕ
put_term w i n = set (set w (terms_at + 2 * i) (term_word n)) (terms_at + 2 * i + 1) (term_word' n)

unfoldable pub put_alternative : List ℕ → ℕ → ℕ → ℕ → List ℕ
put_alternative w i at n = set w (alternatives_at + i) (pair_word at n)

unfoldable pub put_branch : List ℕ → ℕ → ℕ → ℕ → List ℕ
put_branch w i at n = set w (branches_at + i) (pair_word at n)

unfoldable pub put_entry : List ℕ → ℕ → ℕ → ℕ → List ℕ
put_entry w i at n = set w (entries_at + i) (pair_word at n)

unfoldable pub put_type : List ℕ → ℕ → ℕ → ℕ → List ℕ
put_type w i at n = set (set w (types_at + 2 * i) at) (types_at + 2 * i + 1) n

unfoldable pub put_process : List ℕ → ℕ → ProcessEntry → List ℕ
put_process w i p =
    set (set (set (set w (processes_at + 4 * i) p.at) (processes_at + 4 * i + 1) p.first) (processes_at + 4 * i + 2) (p.provided + provided_radix * p.used)) (processes_at + 4 * i + 3) p.body

unfoldable pub put_exec : List ℕ → ℕ → ℕ → List ℕ
put_exec w i at = set w (execs_at + i) at

-- ── one more of a table. `last` is the number of the type that was read last, or the length of the list
abbrev pub lasting : ℕ → Tally → Tally
lasting n k = record { types = k.types; processes = k.processes; execs = k.execs; entries = k.entries; nodes = k.nodes; alternatives = k.alternatives; terms = k.terms; branches = k.branches; last = n }

abbrev pub more_nodes : Tally → Tally
more_nodes k = record { types = k.types; processes = k.processes; execs = k.execs; entries = k.entries; nodes = k.nodes + 1; alternatives = k.alternatives; terms = k.terms; branches = k.branches; last = k.nodes }

abbrev pub more_terms : Tally → Tally
more_terms k = record { types = k.types; processes = k.processes; execs = k.execs; entries = k.entries; nodes = k.nodes; alternatives = k.alternatives; terms = k.terms + 1; branches = k.branches; last = k.last }

abbrev pub more_alternatives : Tally → Tally
more_alternatives k = record { types = k.types; processes = k.processes; execs = k.execs; entries = k.entries; nodes = k.nodes; alternatives = k.alternatives + 1; terms = k.terms; branches = k.branches; last = k.last + 1 }

abbrev pub more_branches : Tally → Tally
more_branches k = record { types = k.types; processes = k.processes; execs = k.execs; entries = k.entries; nodes = k.nodes; alternatives = k.alternatives; terms = k.terms; branches = k.branches + 1; last = k.last + 1 }

abbrev pub more_entries : Tally → Tally
more_entries k = record { types = k.types; processes = k.processes; execs = k.execs; entries = k.entries + 1; nodes = k.nodes; alternatives = k.alternatives; terms = k.terms; branches = k.branches; last = k.last }

abbrev pub more_types : Tally → Tally
more_types k = record { types = k.types + 1; processes = k.processes; execs = k.execs; entries = k.entries; nodes = k.nodes; alternatives = k.alternatives; terms = k.terms; branches = k.branches; last = k.last }

abbrev pub more_processes : Tally → Tally
more_processes k = record { types = k.types; processes = k.processes + 1; execs = k.execs; entries = k.entries; nodes = k.nodes; alternatives = k.alternatives; terms = k.terms; branches = k.branches; last = k.last }

abbrev pub more_execs : Tally → Tally
more_execs k = record { types = k.types; processes = k.processes; execs = k.execs + 1; entries = k.entries; nodes = k.nodes; alternatives = k.alternatives; terms = k.terms; branches = k.branches; last = k.last }

-- ── types: kinds 0 to 6 in the order of `Ty`. A choice keeps the place past its first alternative and how many there are:
-- one list's alternatives stand side by side, the first of them last.
-- after an infix type whose left part fills the tables up to d
abbrev pub after_infix : Tally → (Tally → Tally) → Tally
after_infix d right = lasting d.nodes (right (more_nodes d))

unfoldable mutual
  pub after_type : Ty Located → Tally → Tally
  after_type unit k = more_nodes k
  after_type (named n) k = more_nodes k
  after_type (tensor A B) k = after_infix (after_type A k) (λ d. after_type B d)
  after_type (par A B) k = after_infix (after_type A k) (λ d. after_type B d)
  after_type (lolli A B) k = after_infix (after_type A k) (λ d. after_type B d)
  after_type (plus r) k = lasting k.nodes (after_alternatives r (more_nodes k))
  after_type (with r) k = lasting k.nodes (after_alternatives r (more_nodes k))

  pub after_alternatives : Alternatives Located → Tally → Tally
  after_alternatives Alternatives.none k = lasting 0 k
  after_alternatives (alternative l A r) k = more_alternatives (after_alternatives r (after_type A k))

abbrev pub type_node : ℕ → ℕ → ℕ → TypeNode
type_node kind first second = record { kind = kind; first = first; second = second }

-- the node of an infix type whose left part fills the tables up to d, and its right part, written after it, up to e
abbrev pub put_infix : ℕ → Tally → Tally → List ℕ → List ℕ
put_infix kind d e w = put_node w d.nodes (type_node kind d.last e.last)

-- the node of a choice after k, whose list fills the tables up to d
abbrev pub put_choice : ℕ → Tally → Tally → List ℕ → List ℕ
put_choice kind k d w = put_node w k.nodes (type_node kind d.alternatives d.last)

unfoldable mutual
  pub write_type : Ty Located → Tally → List ℕ → List ℕ
  write_type unit k w = put_node w k.nodes (type_node 0 0 0)
  write_type (named n) k w = put_node w k.nodes (type_node 1 0 n.at)
  write_type (tensor A B) k w = let d = after_type A k in write_type B (more_nodes d) (put_infix 2 d (after_type B (more_nodes d)) (write_type A k w))
  write_type (par A B) k w = let d = after_type A k in write_type B (more_nodes d) (put_infix 3 d (after_type B (more_nodes d)) (write_type A k w))
  write_type (lolli A B) k w = let d = after_type A k in write_type B (more_nodes d) (put_infix 4 d (after_type B (more_nodes d)) (write_type A k w))
  write_type (plus r) k w = write_alternatives r (more_nodes k) (put_choice 5 k (after_alternatives r (more_nodes k)) w)
  write_type (with r) k w = write_alternatives r (more_nodes k) (put_choice 6 k (after_alternatives r (more_nodes k)) w)

  pub write_alternatives : Alternatives Located → Tally → List ℕ → List ℕ
  write_alternatives Alternatives.none k w = w
  write_alternatives (alternative l A r) k w =
      put_alternative (write_alternatives r (after_type A k) (write_type A k w)) (after_alternatives r (after_type A k)).alternatives l.at (after_type A k).last

-- ── processes: kinds 0 to 12 in the order of `Proc`. A branch list is kept as a choice's alternatives are.
unfoldable mutual
  pub after_process : Proc → Tally → Tally
  after_process (empty at) k = k
  after_process (send_unit at c P) k = after_process P (more_terms k)
  after_process (send_channel at c a P) k = after_process P (more_terms k)
  after_process (send_label at c l P) k = after_process P (more_terms k)
  after_process (cancel at c P) k = after_process P (more_terms k)
  after_process (spawn x A P Q) k = after_process Q (after_process P (after_type A (more_terms k)))
  after_process (recv_unit at c P) k = after_process P (more_terms k)
  after_process (recv_channel at c x P) k = after_process P (more_terms k)
  after_process (recv_label at c B) k = after_branches B (more_terms k)
  after_process (fwd at x c) k = more_terms k
  after_process (call at p bracket xs ys) k = more_terms k
  after_process (raise at P) k = after_process P (more_terms k)
  after_process (try at P Q) k = after_process Q (after_process P (more_terms k))

  pub after_branches : Branches → Tally → Tally
  after_branches Branches.none k = lasting 0 k
  after_branches (branch l P B) k = more_branches (after_branches B (after_process P k))

-- a pointer to a process: the number n of its first node, or for an empty process, which has no node, the limit of process terms and its offset
abbrev pub empty_pointer : ℕ → ℕ
empty_pointer at = process_term_limit + at

abbrev pub pointer_to : Proc → ℕ → ℕ
pointer_to (empty at) n = empty_pointer at
pointer_to (send_unit at c P) n = n
pointer_to (send_channel at c a P) n = n
pointer_to (send_label at c l P) n = n
pointer_to (cancel at c P) n = n
pointer_to (spawn x A P Q) n = n
pointer_to (recv_unit at c P) n = n
pointer_to (recv_channel at c x P) n = n
pointer_to (recv_label at c B) n = n
pointer_to (fwd at x c) n = n
pointer_to (call at p bracket xs ys) n = n
pointer_to (raise at P) n = n
pointer_to (try at P Q) n = n

abbrev pub term_node : ℕ → ℕ → ℕ → ℕ → ℕ → TermNode
term_node kind at first second third = record { kind = kind; at = at; first = first; second = second; third = third }

-- the node of a term after k that P follows
abbrev pub put_before : ℕ → ℕ → ℕ → ℕ → Proc → Tally → List ℕ → List ℕ
put_before kind at first second P k w = put_term w k.terms (term_node kind at first second (pointer_to P (k.terms + 1)))

-- the nodes of a spawn and a try after k, whose first half begins after d and whose second after e; of a list of branches that fills the tables up to d
abbrev pub put_spawn : ℕ → Proc → Proc → Tally → Tally → Tally → List ℕ → List ℕ
put_spawn at P Q k d e w = put_term w k.terms (term_node 5 at d.last (pointer_to P d.terms) (pointer_to Q e.terms))

abbrev pub put_try : ℕ → Proc → Proc → Tally → Tally → List ℕ → List ℕ
put_try at P Q k e w = put_term w k.terms (term_node 12 at 0 (pointer_to P (k.terms + 1)) (pointer_to Q e.terms))

abbrev pub put_labels : ℕ → ℕ → Tally → Tally → List ℕ → List ℕ
put_labels at first k d w = put_term w k.terms (term_node 8 at first d.branches d.last)

unfoldable mutual
  pub write_process : Proc → Tally → List ℕ → List ℕ
  write_process (empty at) k w = w
  write_process (send_unit at c P) k w = write_process P (more_terms k) (put_before 1 at c.at 0 P k w)
  write_process (send_channel at c a P) k w = write_process P (more_terms k) (put_before 2 at c.at a.at P k w)
  write_process (send_label at c l P) k w = write_process P (more_terms k) (put_before 3 at c.at l.at P k w)
  write_process (cancel at c P) k w = write_process P (more_terms k) (put_before 4 at c.at 0 P k w)
  write_process (spawn x A P Q) k w =
      let d = after_type A (more_terms k) in
      let e = after_process P d in
      write_process Q e (write_process P d (write_type A (more_terms k) (put_spawn x.at P Q k d e w)))
  write_process (recv_unit at c P) k w = write_process P (more_terms k) (put_before 6 at c.at 0 P k w)
  write_process (recv_channel at c x P) k w = write_process P (more_terms k) (put_before 7 at c.at x.at P k w)
  write_process (recv_label at c B) k w = write_branches B (more_terms k) (put_labels at c.at k (after_branches B (more_terms k)) w)
  write_process (fwd at x c) k w = put_term w k.terms (term_node 9 at x.at c.at 0)
  write_process (call at p bracket xs ys) k w = put_term w k.terms (term_node 10 at p.at bracket 0)
  write_process (raise at P) k w = write_process P (more_terms k) (put_before 11 at 0 0 P k w)
  write_process (try at P Q) k w =
      let e = after_process P (more_terms k) in
      write_process Q e (write_process P (more_terms k) (put_try at P Q k e w))

  pub write_branches : Branches → Tally → List ℕ → List ℕ
  write_branches Branches.none k w = w
  write_branches (branch l P B) k w =
      put_branch (write_branches B (after_process P k) (write_process P k w)) (after_branches B (after_process P k)).branches l.at (pointer_to P k.terms)

-- ── declarations
unfoldable pub after_entries : List Entry → Tally → Tally
after_entries [] k = k
after_entries (e ∷ es) k = after_entries es (more_entries (after_type e.type k))

unfoldable pub write_entries : List Entry → Tally → List ℕ → List ℕ
write_entries [] k w = w
write_entries (e ∷ es) k w =
    write_entries es (more_entries (after_type e.type k)) (put_entry (write_type e.type k w) k.entries e.channel.at (after_type e.type k).last)

abbrev pub process_entry : ℕ → ℕ → ℕ → ℕ → ℕ → ProcessEntry
process_entry at first provided used body = record { at = at; first = first; provided = provided; used = used; body = body }

unfoldable pub after_declaration : Declaration → Tally → Tally
after_declaration (declare_type n A) k = more_types (after_type A k)
after_declaration (declare_proc n xs ys P) k = more_processes (after_process P (after_entries ys (after_entries xs k)))
after_declaration (declare_exec n) k = more_execs k

unfoldable pub write_declaration : Declaration → Tally → List ℕ → List ℕ
write_declaration (declare_type n A) k w = put_type (write_type A k w) k.types n.at (after_type A k).last
write_declaration (declare_proc n xs ys P) k w =
    let d = after_entries xs k in
    let e = after_entries ys d in
    put_process (write_process P e (write_entries ys d (write_entries xs k w))) k.processes (process_entry n.at k.entries (length xs) (length ys) (pointer_to P e.terms))
write_declaration (declare_exec n) k w = put_exec w k.execs n.at

unfoldable pub after_script : List Declaration → Tally → Tally
after_script [] k = k
after_script (a ∷ r) k = after_script r (after_declaration a k)

unfoldable pub write_script : List Declaration → Tally → List ℕ → List ℕ
write_script [] k w = w
write_script (a ∷ r) k w = write_script r (after_declaration a k) (write_declaration a k w)

abbrev pub nothing : Tally
nothing = record { types = 0; processes = 0; execs = 0; entries = 0; nodes = 0; alternatives = 0; terms = 0; branches = 0; last = 0 }

-- the first eight words: how many entries each table has
unfoldable pub write_counts : Tally → List ℕ → List ℕ
write_counts k w =
    set (set (set (set (set (set (set (set w 0 k.types) 1 k.processes) 2 k.execs) 3 k.entries) 4 k.nodes) 5 k.alternatives) 6 k.terms) 7 k.branches

abbrev pub zeros : List ℕ
zeros = replicate scratch_words 0

-- "they hold the checked tables, which the text alone decides": the words of a script
unfoldable pub tables_of : List Declaration → List ℕ
tables_of ds = write_counts (after_script ds nothing) (write_script ds nothing zeros)

abbrev pub tables_read : Result (List Declaration) → List ℕ
tables_read (got ds c) = tables_of ds
tables_read (refused n i) = zeros

-- the words of scratch for a text that is not refused
unfoldable pub tables : List ℕ → List ℕ
tables s = tables_read (read_text s)

-- the words of the tables' area are there
abbrev pub Area : List ℕ → Type 0
Area w = table_words ≤ length w

-- each table is within its own words
abbrev pub Within : Tally → Type 0
Within k =
    (k.types ≤ type_limit)
    × (k.processes ≤ process_limit)
    × (k.execs ≤ exec_limit)
    × (k.entries ≤ type_term_limit)
    × (k.nodes ≤ type_term_limit)
    × (k.alternatives ≤ type_term_limit)
    × (k.terms ≤ process_term_limit)
    × (k.branches ≤ branch_room)

-- so are the tables of a text that is read
abbrev pub FitsTables : List ℕ → Type 0
FitsTables s = (ds : List Declaration) (d : Cursor) → read_text s ≡ got ds d → Within (after_script ds nothing)
