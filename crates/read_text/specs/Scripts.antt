-- What the code that reads signatures, declarations and the script promises.
use Rattle.std.specs.Prelude.{◌≡◌, ℕ, ◌+◌, ◌*◌, ◌<◌, ◌≤◌, List, [], length, eqb, Ok, Err}
use Rattle.notation.specs.Fine.{FineEntries, FineDeclaration}
use Rattle.notation.specs.Limits.{type_term_limit, process_term_limit, type_limit, process_limit, exec_limit}
use Rattle.notation.specs.Token.{kind_at, k_name, k_colon, k_comma}
use Rattle.notation.specs.Tree.{Entry, Declaration}
use Rattle.notation.specs.Reader.{Result, Taken, got, on_token, choose, expect, misfit, then_token}
use Rattle.notation.specs.Scripts.{Count, keyword, more_types, more_processes, more_execs, read_entries, type_declaration, proc_declaration, exec_declaration, read_script}
use Rattle.notation.specs.Tables.{after_entries, write_entries, after_declaration, write_declaration, after_script, write_script}
use Rattle.notation.specs.declared.reading.Cursor.{Cursor}
use Rattle.notation.specs.declared.reading.Tally.{Tally}
use Rattle.notation.specs.declared.token.DeclarationHead.{DeclarationHead}
use Rattle.notation.specs.declared.token.DeclarationHead.TheVariants.{TypeWord, ProcWord, ExecWord, End, Other}
use Rattle.read_types.specs.Filling.{Out, SameDeclared, Form, Meets, unread}

-- ── signatures
unfoldable pub entry_name : List ℕ → Cursor → Taken
entry_name s c = then_token (expect s k_name c) (expect s k_colon)

-- past a signature's list: each of its entries has a type term
abbrev pub AheadEntries : List ℕ → Cursor → Tally → Cursor → Tally → Type 0
AheadEntries s c k d l =
    (c.at ≤ d.at)
    × (d.at ≤ length s)
    × (c.types ≤ d.types)
    × (d.types ≤ type_term_limit)
    × (d.terms ≡ c.terms)
    × (l.nodes + c.types ≤ d.types + k.nodes)
    × (l.alternatives + c.types ≤ d.types + k.alternatives)
    × (l.entries + c.types ≤ d.types + k.entries)
    × (k.entries ≤ l.entries)
    × (l.terms ≡ k.terms)
    × (l.branches ≡ k.branches)
    × SameDeclared k l

abbrev pub entries_form : Form (List Entry)
entries_form = record {
  after = after_entries;
  write = write_entries;
  Fine = FineEntries;
  Ahead = AheadEntries;
}

-- the bracket that closes a list
abbrev pub close_by : List ℕ → ℕ → Cursor → Result (List Entry)
close_by s close c = on_token (expect s close c) λ _ d. got [] d

-- after an entry: a comma and more, or the bracket
abbrev pub more_entries_by : ℕ → List ℕ → ℕ → Cursor → Result (List Entry)
more_entries_by m s close c =
    choose (eqb (kind_at s c.at) k_comma)
    (λ c. on_token (expect s k_comma c) λ _ d. read_entries m s close d)
    (λ c. close_by s close c)
    c

-- what stands in a list's brackets: entries, or none
abbrev pub entries_or_none : ℕ → List ℕ → ℕ → Cursor → Result (List Entry)
entries_or_none m s close c = choose (eqb (kind_at s c.at) k_name) (read_entries m s close) (λ c. close_by s close c) c

abbrev pub EntriesRead : (ℕ → Result (List Entry)) → List ℕ → List ℕ → Cursor → Tally → Out → List ℕ → Type 0
EntriesRead f s w c k = Meets entries_form s w c k (3 * unread s c + 2) f

-- ── declarations
-- past what was declared: each term was counted, and each branch took five bytes
abbrev pub AheadDeclared : List ℕ → Cursor → Tally → Cursor → Tally → Type 0
AheadDeclared s c k d l =
    (c.at ≤ d.at)
    × (d.at ≤ length s)
    × (d.types ≤ type_term_limit)
    × (d.terms ≤ process_term_limit)
    × (l.nodes + c.types ≤ d.types + k.nodes)
    × (l.alternatives + c.types ≤ d.types + k.alternatives)
    × (l.entries + c.types ≤ d.types + k.entries)
    × (l.terms + c.terms ≤ d.terms + k.terms)
    × (5 * l.branches + c.at ≤ d.at + 5 * k.branches)

-- a step, and then another, by which both are known
abbrev pub after_token : Taken → (Cursor → Taken) → Taken
after_token (Ok (i, d)) f = f d
after_token (Err e) f = Err e

-- the keyword of a declaration within its limit, and its name
unfoldable pub declared_name : List ℕ → ℕ → ℕ → ℕ → Cursor → Taken
declared_name s kind before limit c = after_token (keyword s kind before limit c) (expect s k_name)

abbrev pub count_of : Tally → Count
count_of k = record { types = k.types; processes = k.processes; execs = k.execs }

-- as many declarations as their limits allow
abbrev pub Counted : Tally → Type 0
Counted k = (k.types ≤ type_limit) × (k.processes ≤ process_limit) × (k.execs ≤ exec_limit)

-- a declaration by what begins it, and the count after it
abbrev pub declaration_by : DeclarationHead → ℕ → List ℕ → Count → Cursor → Result Declaration
declaration_by TypeWord m s n c = type_declaration m s n.types c
declaration_by ProcWord m s n c = proc_declaration m s n.processes c
declaration_by ExecWord m s n c = exec_declaration s n.execs c
declaration_by End m s n c = misfit s c
declaration_by Other m s n c = misfit s c

abbrev pub count_by : DeclarationHead → Count → Count
count_by TypeWord n = more_types n
count_by ProcWord n = more_processes n
count_by ExecWord n = more_execs n
count_by End n = n
count_by Other n = n

-- one declaration, within its limit
abbrev pub declaration_form : DeclarationHead → Form Declaration
declaration_form h = record {
  after = after_declaration;
  write = write_declaration;
  Fine = FineDeclaration;
  Ahead = λ s c k d l. (AheadDeclared s c k d l × (c.at < d.at)) × (count_of l ≡ count_by h (count_of k)) × (Counted k → Counted l);
}

abbrev pub DeclarationRead : DeclarationHead → List ℕ → List ℕ → Cursor → Tally → Out → List ℕ → Type 0
DeclarationRead h s w c k = Meets (declaration_form h) s w c k (3 * unread s c) (λ m. declaration_by h m s (count_of k) c)

-- ── the script
abbrev pub script_form : Form (List Declaration)
script_form = record {
  after = after_script;
  write = write_script;
  Fine = λ ds. 0 ≤ 0;
  Ahead = λ s c k d l. AheadDeclared s c k d l × Counted l;
}

abbrev pub ScriptRead : List ℕ → List ℕ → Cursor → Tally → Out → List ℕ → Type 0
ScriptRead s w c k = Meets script_form s w c k (3 * unread s c + 1) (λ m. read_script m s (count_of k) c)
