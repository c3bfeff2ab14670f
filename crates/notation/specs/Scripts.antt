-- The reading of a script: declarations, none or more; refusals 2 to 5 of a text.
use Rattle.std.specs.Prelude.{ℕ, zero, suc, ◌+◌, ◌*◌, List, [], ◌∷◌, cond, length, ltb, leb, eqb}
use Rattle.notation.specs.Limits.{text_limit, type_limit, process_limit, exec_limit}
use Rattle.notation.specs.Token.{kind_at, k_type, k_proc, k_exec, k_end, k_name, k_round_open, k_round_close, k_square_open, k_square_close, k_colon, k_comma, k_equals}
use Rattle.notation.specs.Tree.{Entry, Declaration, declare_type, declare_proc, declare_exec}
use Rattle.notation.specs.Reader.{Result, Taken, got, refused, on_token, part, lastly, choose, expect, misfit, limited, opening, closed, name_in}
use Rattle.notation.specs.Types.{read_type}
use Rattle.notation.specs.Processes.{read_process}
use Rattle.notation.specs.declared.reading.Cursor.{Cursor}
use Rattle.notation.specs.declared.token.DeclarationHead.{DeclarationHead}
use Rattle.notation.specs.declared.token.DeclarationHead.TheVariants.{TypeWord, ProcWord, ExecWord, End, Other}

-- x : A, .. up to the bracket that closes
unfoldable pub read_entries : ℕ → List ℕ → ℕ → Cursor → Result (List Entry)
read_entries zero s close c = refused 0 0
read_entries (suc n) s close c =
    on_token (expect s k_name c) λ i d.
    on_token (expect s k_colon d) λ _ e.
    part (read_type n s e) λ A f.
    choose (eqb (kind_at s f.at) k_comma)
    (λ f. on_token (expect s k_comma f) λ _ g. lastly (◌∷◌ (record { channel = name_in s i; type = A })) (read_entries n s close g))
    (λ f. on_token (expect s close f) λ _ g. got (record { channel = name_in s i; type = A } ∷ []) g)
    f

unfoldable pub entry_list : ℕ → List ℕ → ℕ → ℕ → Cursor → Result (List Entry)
entry_list n s open' close c =
    on_token (opening s open' c) λ _ d.
    part (choose (eqb (kind_at s d.at) k_name) (read_entries n s close) (λ d. on_token (expect s close d) λ _ e. got [] e) d) λ entries e.
    got entries (closed c e)

-- what a token of this kind begins
unfoldable pub declaration_head : ℕ → DeclarationHead
declaration_head k =
    cond (eqb k k_type) TypeWord
    (cond (eqb k k_proc) ProcWord
    (cond (eqb k k_exec) ExecWord
    (cond (eqb k k_end) End Other)))

-- how many declarations of each kind came before
pub record Count : Type 0 where
  pub types : ℕ
  pub processes : ℕ
  pub execs : ℕ

-- "A declaration over its limit is at fault by its keyword"
abbrev pub keyword : List ℕ → ℕ → ℕ → ℕ → Cursor → Taken
keyword s k before limit c = limited (expect s k c) (λ _. ltb before limit) (λ d. d)

-- type t = A
unfoldable pub type_declaration : ℕ → List ℕ → ℕ → Cursor → Result Declaration
type_declaration n s before c =
    on_token (keyword s k_type before type_limit c) λ _ d.
    on_token (expect s k_name d) λ i e.
    on_token (expect s k_equals e) λ _ f. lastly (declare_type (name_in s i)) (read_type n s f)

-- proc p (x : A, ..) [y : B, ..] = P
unfoldable pub proc_declaration : ℕ → List ℕ → ℕ → Cursor → Result Declaration
proc_declaration n s before c =
    on_token (keyword s k_proc before process_limit c) λ _ d.
    on_token (expect s k_name d) λ i e.
    part (entry_list n s k_round_open k_round_close e) λ xs f.
    part (entry_list n s k_square_open k_square_close f) λ ys g.
    on_token (expect s k_equals g) λ _ h. lastly (declare_proc (name_in s i) xs ys) (read_process n s h)

-- exec p
unfoldable pub exec_declaration : List ℕ → ℕ → Cursor → Result Declaration
exec_declaration s before c =
    on_token (keyword s k_exec before exec_limit c) λ _ d.
    on_token (expect s k_name d) λ i e. got (declare_exec (name_in s i)) e

abbrev pub more_types : Count → Count
more_types k = record { types = k.types + 1; processes = k.processes; execs = k.execs }

abbrev pub more_processes : Count → Count
more_processes k = record { types = k.types; processes = k.processes + 1; execs = k.execs }

abbrev pub more_execs : Count → Count
more_execs k = record { types = k.types; processes = k.processes; execs = k.execs + 1 }

-- a declaration and the script after it, by what begins it
unfoldable pub script_by : (Count → Cursor → Result (List Declaration)) → ℕ → List ℕ → Count → Cursor → DeclarationHead → Result (List Declaration)
script_by script n s k c TypeWord = part (type_declaration n s k.types c) λ a d. lastly (◌∷◌ a) (script (more_types k) d)
script_by script n s k c ProcWord = part (proc_declaration n s k.processes c) λ a d. lastly (◌∷◌ a) (script (more_processes k) d)
script_by script n s k c ExecWord = part (exec_declaration s k.execs c) λ a d. lastly (◌∷◌ a) (script (more_execs k) d)
script_by script n s k c End = got [] c
script_by script n s k c Other = misfit s c

unfoldable pub read_script : ℕ → List ℕ → Count → Cursor → Result (List Declaration)
read_script zero s k c = refused 0 0
read_script (suc n) s k c = script_by (λ j d. read_script n s j d) n s k c (declaration_head (kind_at s c.at))

abbrev pub start : Cursor
start = record { at = 0; types = 0; terms = 0; depth = 0 }

-- more than any reading of this text can use
abbrev pub fuel : List ℕ → ℕ
fuel s = 4 * length s + 8

-- the declarations of a text, or its refusal among 2 to 5: 2 where it is too long, else the first fault of one pass
unfoldable pub read_text : List ℕ → Result (List Declaration)
read_text s =
    cond (leb (length s) text_limit)
    (read_script (fuel s) s (record { types = 0; processes = 0; execs = 0 }) start)
    (refused 2 text_limit)
