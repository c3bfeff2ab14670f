-- The script that the tables of a small text hold, computed.
use Rattle.std.specs.Prelude.{ℕ, ◌≡◌, refl, List, [], ◌∷◌}
use Rattle.notation.specs.Bytes.{bytes}
use Rattle.notation.specs.Computed.{tables_now}
use Rattle.notation.specs.Tree.{Located, unit, named, plus, alternative, send_label, call, Alternatives, declare_type, declare_proc, declare_exec}
use Rattle.notation.specs.Tables.{tables}
use Rattle.read_tables.specs.Decode.{type_node_of, term_node_of, pair_of, node_at, alternative_at, term_at, branch_at, entry_at, type_at, process_entry_of, process_at, exec_at, type_of, arguments_at, process_of, entries_in, type_declaration, proc_declaration, exec_declaration, script_in}

text : List ℕ
text = bytes "exec p type b = +{'t : 1, 'f : b} proc p (x : b) [] = send x 't; call q (x) []"

named' : ℕ → List ℕ → Located
named' at name = record { at = at; name = name }

decoded : script_in text (tables text)
    ≡ declare_type (named' 12 (bytes "b")) (plus (alternative (named' 18 (bytes "t")) unit (alternative (named' 26 (bytes "f")) (named (named' 31 (bytes "b"))) Alternatives.none)))
    ∷ declare_proc (named' 39 (bytes "p")) (record { channel = named' 42 (bytes "x"); type = named (named' 46 (bytes "b")) } ∷ []) []
    (send_label 54 (named' 59 (bytes "x")) (named' 61 (bytes "t")) (call 65 (named' 70 (bytes "q")) 72 (named' 73 (bytes "x") ∷ []) []))
    ∷ declare_exec (named' 5 (bytes "p"))
    ∷ []
unfolding tables_now text named' type_node_of term_node_of pair_of node_at alternative_at term_at branch_at entry_at type_at process_entry_of process_at exec_at type_of arguments_at process_of entries_in type_declaration proc_declaration exec_declaration script_in
decoded = refl
