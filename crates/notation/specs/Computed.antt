-- The reading and the tables as antt computes them: to unfold `read_now` is to unfold all that a reading is made of.
use Rattle.std.specs.Prelude.{ℕ, List}
use Rattle.notation.specs.Bytes
use Rattle.notation.specs.Token
use Rattle.notation.specs.Tree.{Declaration}
use Rattle.notation.specs.Reader.{Result, expect, misfit, opening, type_term, process_term}
use Rattle.notation.specs.Types
use Rattle.notation.specs.Processes
use Rattle.notation.specs.Scripts
use Rattle.notation.specs.Tables

unfoldable pub read_now : List ℕ → Result (List Declaration)
unfolding Bytes.letter Bytes.name_byte Bytes.blank Bytes.position Bytes.same Token.symbols Token.symbol Token.skip Token.name_end Token.name_at Token.name_token Token.word_at Token.label_at Token.mark_at Token.first_at Token.token_at expect misfit opening type_term process_term Types.type_head Types.is_infix Types.infix_of Types.type_by Types.atom_by Types.label_term Types.alternatives_by Types.read_type Processes.term_head Processes.payload Processes.unit_taken Processes.bracketed_by Processes.read_names Processes.name_list Processes.send_by Processes.recv_by Processes.process_by Processes.rest_by Processes.branches_by Processes.read_process Scripts.read_entries Scripts.entry_list Scripts.declaration_head Scripts.type_declaration Scripts.proc_declaration Scripts.exec_declaration Scripts.script_by Scripts.read_script Scripts.read_text
read_now s = Scripts.read_text s

unfoldable pub tables_now : List ℕ → List ℕ
unfolding read_now Tables.type_word Tables.term_word Tables.term_word' Tables.pair_word Tables.put_node Tables.put_term Tables.put_alternative Tables.put_branch Tables.put_entry Tables.put_type Tables.put_process Tables.put_exec Tables.after_type Tables.write_type Tables.after_process Tables.write_process Tables.after_entries Tables.write_entries Tables.after_declaration Tables.write_declaration Tables.after_script Tables.write_script Tables.write_counts Tables.tables_of Tables.tables
tables_now s = Tables.tables s
