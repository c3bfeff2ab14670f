-- A script in the tables is read back: each kind of declaration in the order of the text.
use Rattle.std.specs.Prelude.{ℕ, zero, suc, ◌+◌, ◌≡◌, get_or}
use Rattle.std.proofs.Math.Path.{refl, ap}
use Rattle.std.proofs.Common.{sym, ◌∙◌}
use mathlib.Core.List.{List, [], ◌∷◌, ◌++◌}
use native.Mathlib.Omega.{arith}
use Rattle.std.proofs.Math.ListN.{length, length-append}
use Rattle.notation.specs.Fine.{FineScript}
use Rattle.notation.specs.Limits.{type_term_limit, process_term_limit}
use Rattle.notation.specs.Tree.{Entry, Declaration, declare_type, declare_proc, declare_exec}
use Rattle.notation.specs.Reader.{name_in}
use Rattle.notation.specs.Tables.{lasting, after_entries, after_declaration, after_script, write_script, write_counts, nothing, zeros, tables_of, Within}
use Rattle.notation.specs.declared.reading.Tally.{Tally}
use Rattle.notation.specs.Tables.{Area}
use Rattle.notation.proofs.Zeroed.{zeros_area}
use Rattle.read_tables.specs.Decode.{tally_in, type_in, entries_in, type_declaration, proc_by, proc_declaration, exec_declaration, numbered, script_in}
use Rattle.read_tables.specs.Growth.{grown_counts}
use Rattle.notation.specs.From.{EntriesFrom, DeclarationFrom, ScriptFrom}
use Rattle.read_tables.specs.Stands.{EntriesAt, DeclarationAt, ScriptAt}
use Rattle.read_tables.specs.Types.{type_counts, type_read}
use Rattle.read_tables.specs.Processes.{process_counts, process_read}
use Rattle.read_tables.specs.Declarations.{entries_count, script_grown, script_kept, script_written}

-- ── the declarations of each kind
abbrev pub own_type : Declaration → List Declaration
own_type (declare_type n A) = declare_type n A ∷ []
own_type (declare_proc n xs ys P) = []
own_type (declare_exec n) = []

abbrev pub own_proc : Declaration → List Declaration
own_proc (declare_type n A) = []
own_proc (declare_proc n xs ys P) = declare_proc n xs ys P ∷ []
own_proc (declare_exec n) = []

abbrev pub own_exec : Declaration → List Declaration
own_exec (declare_type n A) = []
own_exec (declare_proc n xs ys P) = []
own_exec (declare_exec n) = declare_exec n ∷ []

unfoldable pub gather : (Declaration → List Declaration) → List Declaration → List Declaration
gather own [] = []
gather own (a ∷ r) = own a ++ gather own r

-- a script with its types first, then its processes, then its execs
unfoldable pub sorted : List Declaration → List Declaration
sorted ds = gather own_type ds ++ (gather own_proc ds ++ gather own_exec ds)

-- ── lists by number
numbered_more : (f : ℕ → Declaration) (i n m : ℕ) → numbered f i (n + m) ≡ numbered f i n ++ numbered f (i + n) m
numbered_more f i zero m =
    let y : 0 + m ≡ m = omega arith in
    let z : i ≡ i + 0 = omega arith in
    ap (numbered f i) y ∙ ap (λ x. numbered f x m) z
numbered_more f i (suc n) m =
    let y : suc n + m ≡ suc (n + m) = omega arith in
    let z : i + 1 + n ≡ i + suc n = omega arith in
    ap (numbered f i) y ∙ ap (◌∷◌ (f i)) (numbered_more f (i + 1) n m ∙ ap (λ x. numbered f (i + 1) n ++ numbered f x m) z)

-- a table of declarations: which ones are its own, and where the next one goes
module _ (own : Declaration → List Declaration) (index : Tally → ℕ) (next : (a : Declaration) (j : Tally) → index (after_declaration a j) ≡ index j + length (own a)) where
  gathered_count : (ds : List Declaration) (j : Tally) → index (after_script ds j) ≡ index j + length (gather own ds)
  unfolding after_script gather
  gathered_count [] j = omega arith
  gathered_count (a ∷ r) j = omega (arith, gathered_count r (after_declaration a j), next a j, length-append (own a) (gather own r))

  gathered : (s w : List ℕ) (k : Tally) (f : ℕ → Declaration)
      → ((a : Declaration) (j : Tally) → DeclarationFrom s a → DeclarationAt w k j a → numbered f (index j) (length (own a)) ≡ own a)
      → (ds : List Declaration) (j : Tally) → ScriptFrom s ds → ScriptAt w k j ds → numbered f (index j) (length (gather own ds)) ≡ gather own ds
  unfolding gather ScriptFrom ScriptAt
  gathered s w k f head [] j t e = refl
  gathered s w k f head (a ∷ r) j (t, t') (e, e') =
      let h = head a j t e in
      let g = gathered s w k f head r (after_declaration a j) t' e' in
      ap (numbered f (index j)) (length-append (own a) (gather own r))
      ∙ numbered_more f (index j) (length (own a)) (length (gather own r))
      ∙ ap (λ i. numbered f (index j) (length (own a)) ++ numbered f i (length (gather own r))) (sym (next a j))
      ∙ λ i. h i ++ g i

-- ── the three tables
-- what a declaration adds to each
pub grows_by : (a : Declaration) (j : Tally)
    → ((after_declaration a j).types ≡ j.types + length (own_type a)) × ((after_declaration a j).processes ≡ j.processes + length (own_proc a)) × ((after_declaration a j).execs ≡ j.execs + length (own_exec a))
unfolding after_declaration
grows_by (declare_type n A) j = omega (arith, type_counts A j)
grows_by (declare_proc n xs ys P) j =
    omega (arith, entries_count xs j, entries_count ys (after_entries xs j), process_counts P (after_entries ys (after_entries xs j)))
grows_by (declare_exec n) j = omega arith

entries_read : (es : List Entry) (s w : List ℕ) (k : Tally) (i : ℕ) → Within k → EntriesFrom s es → EntriesAt w k i es → entries_in s w i (length es) ≡ es
unfolding entries_in EntriesFrom EntriesAt
entries_read [] s w k i h t e = refl
entries_read (n ∷ es) s w k i h (t, t', t'') (x, b, e, (c, d, a), r) =
    let m = type_read n.type s w k x type_term_limit t' a (omega arith) in
    let o = entries_read es s w k (i + 1) h t'' r in
    (λ j. record { channel = name_in s (e j).0; type = type_in s w (e j).1 } ∷ entries_in s w (i + 1) (length es)) ∙ λ j. record { channel = t j; type = m j } ∷ o j

module _ (s w : List ℕ) (k : Tally) (h : Within k) where
  type_head_lem : (a : Declaration) (j : Tally) → DeclarationFrom s a → DeclarationAt w k j a → numbered (type_declaration s w) j.types (length (own_type a)) ≡ own_type a
  unfolding type_declaration DeclarationFrom DeclarationAt
  type_head_lem (declare_type n A) j (t, t') (x, b, e, (c, d, a)) =
      let m = type_read A s w k x type_term_limit t' a (omega arith) in
      (λ i. declare_type (name_in s (e i).0) (type_in s w (e i).1) ∷ []) ∙ λ i. declare_type (t i) (m i) ∷ []
  type_head_lem (declare_proc n xs ys P) j t e = refl
  type_head_lem (declare_exec n) j t e = refl

  proc_head : (a : Declaration) (j : Tally) → DeclarationFrom s a → DeclarationAt w k j a → numbered (proc_declaration s w) j.processes (length (own_proc a)) ≡ own_proc a
  unfolding proc_declaration DeclarationFrom DeclarationAt
  proc_head (declare_type n A) j t e = refl
  proc_head (declare_proc n xs ys P) j (t, t', t'', u) (p, b, e, f, g, c, q) =
      let m = entries_read xs s w k j.entries h t' f in
      let o = entries_read ys s w k (j.entries + length xs) h t'' g in
      let r = process_read s w k h P p process_term_limit u q (omega arith) in
      (λ i. proc_by s w (e i) ∷ []) ∙ λ i. declare_proc (t i) (m i) (o i) (r i) ∷ []
  proc_head (declare_exec n) j t e = refl

  exec_head : (a : Declaration) (j : Tally) → DeclarationFrom s a → DeclarationAt w k j a → numbered (exec_declaration s w) j.execs (length (own_exec a)) ≡ own_exec a
  unfolding exec_declaration DeclarationFrom DeclarationAt
  exec_head (declare_type n A) j t e = refl
  exec_head (declare_proc n xs ys P) j t e = refl
  exec_head (declare_exec n) j t (b, e) = (λ i. declare_exec (name_in s (e i)) ∷ []) ∙ λ i. declare_exec (t i) ∷ []

-- ── the counts are those of the tables
pub counted : (k : Tally) (w : List ℕ) → Area w → tally_in (write_counts k w) ≡ lasting 0 k
unfolding write_counts
counted k [] area = absurd (omega arith)
counted k (a ∷ []) area = absurd (omega arith)
counted k (a ∷ b ∷ []) area = absurd (omega arith)
counted k (a ∷ b ∷ c ∷ []) area = absurd (omega arith)
counted k (a ∷ b ∷ c ∷ d ∷ []) area = absurd (omega arith)
counted k (a ∷ b ∷ c ∷ d ∷ e ∷ []) area = absurd (omega arith)
counted k (a ∷ b ∷ c ∷ d ∷ e ∷ f ∷ []) area = absurd (omega arith)
counted k (a ∷ b ∷ c ∷ d ∷ e ∷ f ∷ g ∷ []) area = absurd (omega arith)
counted k (a ∷ b ∷ c ∷ d ∷ e ∷ f ∷ g ∷ h ∷ w) area = refl

-- a script that was read is read back from its tables
pub script_decoded : (ds : List Declaration) (s : List ℕ) → ScriptFrom s ds → FineScript ds → Within (after_script ds nothing) → script_in s (tables_of ds) ≡ sorted ds
unfolding script_in tables_of sorted
script_decoded ds s t f h =
    let k = after_script ds nothing in
    let w = write_script ds nothing zeros in
    let v = write_counts k w in
    let e : ScriptAt v k nothing ds = script_kept (grown_counts k w) h ds nothing (script_written ds nothing zeros f zeros_area h) in
    let c = counted k w (omega (arith, zeros_area, (script_grown ds nothing zeros).long)) in
    let x : get_or v 0 0 ≡ length (gather own_type ds) = omega (arith, ap (λ (l : Tally). l.types) c, gathered_count own_type (λ j. j.types) (λ a j. (grows_by a j).0) ds nothing) in
    let y : get_or v 1 0 ≡ length (gather own_proc ds) = omega (arith, ap (λ (l : Tally). l.processes) c, gathered_count own_proc (λ j. j.processes) (λ a j. (grows_by a j).1) ds nothing) in
    let z : get_or v 2 0 ≡ length (gather own_exec ds) = omega (arith, ap (λ (l : Tally). l.execs) c, gathered_count own_exec (λ j. j.execs) (λ a j. (grows_by a j).2) ds nothing) in
    let p = gathered own_type (λ j. j.types) (λ a j. (grows_by a j).0) s v k (type_declaration s v) (λ a j. type_head_lem s v k h a j) ds nothing t e in
    let q = gathered own_proc (λ j. j.processes) (λ a j. (grows_by a j).1) s v k (proc_declaration s v) (λ a j. proc_head s v k h a j) ds nothing t e in
    let r = gathered own_exec (λ j. j.execs) (λ a j. (grows_by a j).2) s v k (exec_declaration s v) (λ a j. exec_head s v k h a j) ds nothing t e in
    (λ i. numbered (type_declaration s v) 0 (x i) ++ (numbered (proc_declaration s v) 0 (y i) ++ numbered (exec_declaration s v) 0 (z i))) ∙ λ i. p i ++ (q i ++ r i)
