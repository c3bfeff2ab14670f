-- The tables, read back: entries by value, and the trees that stand at a number. Names and labels are those of the text.
use Rattle.std.specs.Prelude.{ℕ, zero, suc, ◌+◌, ◌-◌, ◌*◌, ◌/◌, ◌%◌, List, [], ◌∷◌, ◌++◌, cond, get_or, ltb}
use Rattle.notation.specs.Limits.{type_term_limit, process_term_limit}
use Rattle.notation.specs.Token.{k_round_open, k_round_close, k_square_open, k_square_close}
use Rattle.notation.specs.Tree.{Located, Ty, unit, named, tensor, par, lolli, plus, with, Alternatives, alternative, Proc, empty, send_unit, send_channel, send_label, cancel, spawn, recv_unit, recv_channel, recv_label, fwd, call, raise, try, Branches, branch, Entry, Declaration, declare_type, declare_proc, declare_exec}
use Rattle.notation.specs.Reader.{Result, got, refused, part, name_in, label_in}
use Rattle.notation.specs.Processes.{name_list}
use Rattle.notation.specs.Scripts.{fuel}
use Rattle.notation.specs.Tables.{types_at, processes_at, execs_at, entries_at, nodes_at, alternatives_at, terms_at, branches_at, type_node, term_node, process_entry, offset_radix, pointer_radix, provided_radix, term_first_unit, term_kind_radix, type_first_radix, type_kind_radix, type_second_unit}
use Rattle.notation.specs.declared.reading.Cursor.{Cursor}
use Rattle.notation.specs.declared.reading.Tally.{Tally}
use Rattle.notation.specs.declared.reading.TypeNode.{TypeNode}
use Rattle.notation.specs.declared.reading.TermNode.{TermNode}
use Rattle.notation.specs.declared.reading.ProcessEntry.{ProcessEntry}

-- ── how far each table is filled: the first eight words
abbrev pub tally_in : List ℕ → Tally
tally_in w =
    record {
      types = get_or w 0 0;
      processes = get_or w 1 0;
      execs = get_or w 2 0;
      entries = get_or w 3 0;
      nodes = get_or w 4 0;
      alternatives = get_or w 5 0;
      terms = get_or w 6 0;
      branches = get_or w 7 0;
      last = 0;
    }

-- ── one entry of each table
-- the node that `type_word` packs
unfoldable pub type_node_of : ℕ → TypeNode
type_node_of x = type_node (x % type_kind_radix) (x / type_kind_radix % type_first_radix) (x / type_second_unit)

-- the node that `term_word` and `term_word'` pack
unfoldable pub term_node_of : ℕ → ℕ → TermNode
term_node_of x y = term_node (x % term_kind_radix) (x / term_kind_radix % offset_radix) (x / term_first_unit) (y % pointer_radix) (y / pointer_radix)

-- the two numbers that `pair_word` packs
unfoldable pub pair_of : ℕ → ℕ × ℕ
pair_of x = (x % offset_radix, x / offset_radix)

unfoldable pub node_at : List ℕ → ℕ → TypeNode
node_at w i = type_node_of (get_or w (nodes_at + i) 0)

unfoldable pub alternative_at : List ℕ → ℕ → ℕ × ℕ
alternative_at w i = pair_of (get_or w (alternatives_at + i) 0)

unfoldable pub term_at : List ℕ → ℕ → TermNode
term_at w i = term_node_of (get_or w (terms_at + 2 * i) 0) (get_or w (terms_at + 2 * i + 1) 0)

unfoldable pub branch_at : List ℕ → ℕ → ℕ × ℕ
branch_at w i = pair_of (get_or w (branches_at + i) 0)

unfoldable pub entry_at : List ℕ → ℕ → ℕ × ℕ
entry_at w i = pair_of (get_or w (entries_at + i) 0)

unfoldable pub type_at : List ℕ → ℕ → ℕ × ℕ
type_at w i = (get_or w (types_at + 2 * i) 0, get_or w (types_at + 2 * i + 1) 0)

-- what `put_process` packs
unfoldable pub process_entry_of : ℕ → ℕ → ℕ → ℕ → ProcessEntry
process_entry_of at first counts body = process_entry at first (counts % provided_radix) (counts / provided_radix) body

unfoldable pub process_at : List ℕ → ℕ → ProcessEntry
process_at w i =
    process_entry_of (get_or w (processes_at + 4 * i) 0) (get_or w (processes_at + 4 * i + 1) 0) (get_or w (processes_at + 4 * i + 2) 0) (get_or w (processes_at + 4 * i + 3) 0)

unfoldable pub exec_at : List ℕ → ℕ → ℕ
exec_at w i = get_or w (execs_at + i) 0

-- ── types
-- n alternatives, the first of them at the place before e
abbrev pub alternatives_by : (ℕ → Ty Located) → List ℕ → List ℕ → ℕ → ℕ → Alternatives Located
alternatives_by type s w e zero = Alternatives.none
alternatives_by type s w e (suc n) =
    alternative (label_in s (alternative_at w (e - 1)).0) (type (alternative_at w (e - 1)).1) (alternatives_by type s w (e - 1) n)

-- what a node of each kind means, in the order of kinds, over the types of its parts
abbrev pub type_forms : (ℕ → Ty Located) → List ℕ → List ℕ → List (TypeNode → Ty Located)
type_forms type s w =
    (λ n. unit)
    ∷ (λ n. named (name_in s n.second))
    ∷ (λ n. tensor (type n.first) (type n.second))
    ∷ (λ n. par (type n.first) (type n.second))
    ∷ (λ n. lolli (type n.first) (type n.second))
    ∷ (λ n. plus (alternatives_by type s w n.first n.second))
    ∷ (λ n. with (alternatives_by type s w n.first n.second))
    ∷ []

abbrev pub type_by : (ℕ → Ty Located) → List ℕ → List ℕ → TypeNode → Ty Located
type_by type s w n = get_or (type_forms type s w) n.kind (λ _. unit) n

-- no tree is deeper than it has terms
unfoldable pub type_of : ℕ → List ℕ → List ℕ → ℕ → Ty Located
type_of zero s w i = unit
type_of (suc f) s w i = type_by (λ x. type_of f s w x) s w (node_at w i)

-- the type at a node's number
abbrev pub type_in : List ℕ → List ℕ → ℕ → Ty Located
type_in s w i = type_of type_term_limit s w i

-- ── processes
-- the two lists of names of a call whose round bracket stands at i: read again in the text
abbrev pub from_start : ℕ → Cursor
from_start i = record { at = i; types = 0; terms = 0; depth = 0 }

abbrev pub read_arguments : ℕ → List ℕ → Cursor → Result (List Located × List Located)
read_arguments n s c =
    part (name_list n s k_round_open k_round_close c) λ xs d.
    part (name_list n s k_square_open k_square_close d) λ ys e. got (xs, ys) e

abbrev pub arguments_or : Result (List Located × List Located) → List Located × List Located
arguments_or (got a d) = a
arguments_or (refused n i) = ([], [])

unfoldable pub arguments_at : List ℕ → ℕ → List Located × List Located
arguments_at s i = arguments_or (read_arguments (fuel s) s (from_start i))

-- n branches, the first of them at the place before e
abbrev pub branches_by : (ℕ → Proc) → List ℕ → List ℕ → ℕ → ℕ → Branches
branches_by process s w e zero = Branches.none
branches_by process s w e (suc n) =
    branch (label_in s (branch_at w (e - 1)).0) (process (branch_at w (e - 1)).1) (branches_by process s w (e - 1) n)

-- what a node of each kind means, in the order of kinds, over the types and processes of its parts; an empty process has no node
abbrev pub term_forms : (ℕ → Ty Located) → (ℕ → Proc) → List ℕ → List ℕ → List (TermNode → Proc)
term_forms type process s w =
    (λ n. empty 0)
    ∷ (λ n. send_unit n.at (name_in s n.first) (process n.third))
    ∷ (λ n. send_channel n.at (name_in s n.first) (name_in s n.second) (process n.third))
    ∷ (λ n. send_label n.at (name_in s n.first) (label_in s n.second) (process n.third))
    ∷ (λ n. cancel n.at (name_in s n.first) (process n.third))
    ∷ (λ n. spawn (name_in s n.at) (type n.first) (process n.second) (process n.third))
    ∷ (λ n. recv_unit n.at (name_in s n.first) (process n.third))
    ∷ (λ n. recv_channel n.at (name_in s n.first) (name_in s n.second) (process n.third))
    ∷ (λ n. recv_label n.at (name_in s n.first) (branches_by process s w n.second n.third))
    ∷ (λ n. fwd n.at (name_in s n.first) (name_in s n.second))
    ∷ (λ n. call n.at (name_in s n.first) n.second (arguments_at s n.second).0 (arguments_at s n.second).1)
    ∷ (λ n. raise n.at (process n.third))
    ∷ (λ n. try n.at (process n.second) (process n.third))
    ∷ []

abbrev pub term_by : (ℕ → Ty Located) → (ℕ → Proc) → List ℕ → List ℕ → TermNode → Proc
term_by type process s w n = get_or (term_forms type process s w) n.kind (λ _. empty 0) n

-- a pointer: a node's number, or an empty process by its offset
unfoldable pub process_of : ℕ → List ℕ → List ℕ → ℕ → Proc
process_of zero s w p = empty (p - process_term_limit)
process_of (suc f) s w p =
    cond {A = ℕ → Proc} (ltb p process_term_limit)
    (λ p. term_by (λ x. type_in s w x) (λ x. process_of f s w x) s w (term_at w p))
    (λ p. empty (p - process_term_limit))
    p

-- the process at a pointer
abbrev pub process_in : List ℕ → List ℕ → ℕ → Proc
process_in s w p = process_of process_term_limit s w p

-- ── declarations
-- n signature entries from the place i on
unfoldable pub entries_in : List ℕ → List ℕ → ℕ → ℕ → List Entry
entries_in s w i zero = []
entries_in s w i (suc n) = record { channel = name_in s (entry_at w i).0; type = type_in s w (entry_at w i).1 } ∷ entries_in s w (i + 1) n

unfoldable pub type_declaration : List ℕ → List ℕ → ℕ → Declaration
type_declaration s w i = declare_type (name_in s (type_at w i).0) (type_in s w (type_at w i).1)

abbrev pub proc_by : List ℕ → List ℕ → ProcessEntry → Declaration
proc_by s w e = declare_proc (name_in s e.at) (entries_in s w e.first e.provided) (entries_in s w (e.first + e.provided) e.used) (process_in s w e.body)

unfoldable pub proc_declaration : List ℕ → List ℕ → ℕ → Declaration
proc_declaration s w i = proc_by s w (process_at w i)

unfoldable pub exec_declaration : List ℕ → List ℕ → ℕ → Declaration
exec_declaration s w i = declare_exec (name_in s (exec_at w i))

-- what f says of n numbers from i on
abbrev pub numbered : {A : Type 0} → (ℕ → A) → ℕ → ℕ → List A
numbered f i zero = []
numbered f i (suc n) = f i ∷ numbered f (i + 1) n

-- the script that the tables hold: each kind of declaration in text order, types first, then processes, then execs
unfoldable pub script_in : List ℕ → List ℕ → List Declaration
script_in s w = numbered (type_declaration s w) 0 (tally_in w).types ++ (numbered (proc_declaration s w) 0 (tally_in w).processes ++ numbered (exec_declaration s w) 0 (tally_in w).execs)
