-- Refusals 6 and 7: what each pass finds in a declaration.
use Prim.Native.Nat.{ℕ, zero, suc, ◌+◌, ◌<◌, ◌≤◌}
use Rattle.std.specs.Prelude.{◌≡◌, ◌⊎◌}
use Rattle.std.proofs.Math.Path.{refl, sym, ap}
use Rattle.std.proofs.Common.{◌∙◌, inl, inr}
use mathlib.Core.List.{List, [], ◌∷◌, ◌++◌}
use native.Mathlib.Omega.{arith}
use Rattle.notation.specs.Tree.{Located, Entry, Declaration}
use Rattle.notation.specs.Reader.{name_in}
use Rattle.calculus.specs.Program.{Program, program_of}
use Rattle.calculus.specs.Declarations.{channels, repeats, unless_defined, entries_repeats, entries_undefined, own_repeats, own_undefined, repeated, undefined}
use Rattle.read_tables.specs.declared.access.Labelled.{Labelled}
use Rattle.read_tables.specs.Access.{TypeOf, SignatureOf, ExecOf, EntryOf}
use Rattle.notation.specs.declared.reading.ProcessEntry.{ProcessEntry}
use Rattle.notation.specs.Limits.{type_term_limit}
use Rattle.read_tables.specs.Decode.{tally_in, numbered, entry_at, entries_in, type_at, proc_by, type_declaration, proc_declaration, exec_declaration, script_in}
use Rattle.read_tables.specs.Program.{program_in, exec_in}
use Rattle.read_tables.specs.Whole.{Tables, SignatureIn}
use Rattle.check_declarations.specs.Faults.{label_faults, faults_in, by_pass}
use Rattle.check_declarations.specs.Listed.{up, by_steps, entry_names, entries_fit}
use Rattle.check_declarations.specs.ProcessFaults.{process_faults_in}
use Rattle.check_declarations.specs.Passes.{of_types, of_processes, of_execs, gathered_in, without_execs, type_names_lem, process_names}
use Rattle.check_declarations.specs.declared.faults.Pass.{Pass}
use Rattle.check_declarations.specs.declared.faults.Pass.TheVariants.{Repeated, Undefined}
use Rattle.check_declarations.specs.declared.names.Names.TheVariants.{Types, Processes, Entries}
use Rattle.check_declarations.specs.Lowest.{Lowest, Lowered, lowered_as, over}
use Rattle.check_declarations.specs.Names.{name_of}

abbrev pub entries_faults : Pass → Program → List Entry → List ℕ
entries_faults Repeated p l = entries_repeats l
entries_faults Undefined p l = entries_undefined p l

abbrev pub declaration_faults : Pass → Program → Declaration → List ℕ
declaration_faults Repeated p a = own_repeats a
declaration_faults Undefined p a = own_undefined p a

module _ (s w : List ℕ) where
  -- the names of two lists of entries, one after the other
  channels_append : (n i m : ℕ) → channels (entries_in s w i (n + m)) ≡ channels (entries_in s w i n) ++ channels (entries_in s w (i + n) m)
  unfolding entries_in
  channels_append zero i m =
      let y : 0 + m ≡ m = omega arith in
      let z : i ≡ i + 0 = omega arith in
      λ j. channels (entries_in s w (z j) (y j))
  channels_append (suc n) i m =
      let y : suc n + m ≡ suc (n + m) = omega arith in
      let z : i + 1 + n ≡ i + suc n = omega arith in
      ap (λ k. channels (entries_in s w i k)) y
      ∙ ap (◌∷◌ (name_in s (entry_at w i).0)) (channels_append n (i + 1) m ∙ ap (λ k. channels (entries_in s w (i + 1) n) ++ channels (entries_in s w k m)) z)

  signature_names : (i n m : ℕ) → numbered (name_of s w (Entries i)) 0 (n + m) ≡ channels (entries_in s w i n) ++ channels (entries_in s w (i + n) m)
  signature_names i n m = entry_names s w i (n + m) ∙ channels_append n i m

  module _ (pass : Pass) where
    -- those of the entry k from the place i on
    abbrev pub entry_faults : ℕ → ℕ → List ℕ
    entry_faults i k = faults_in s w pass (entry_at w (i + k)).1

    pub entries_over : (i n : ℕ) → over (entry_faults i) 0 n ≡ entries_faults pass (program_in s w) (entries_in s w i n)
    unfolding entries_in
    entries_over i n =
        let made : Pass → ℕ → ℕ → List ℕ = λ q x m. entries_faults q (program_in s w) (entries_in s w x m) in
        let one : Pass → ℕ → List ℕ = λ q x. faults_in s w q (entry_at w x).1 in
        sym
        (by_steps up ◌++◌ [] (one pass) (made pass) (λ x. by_pass (λ q. made q x 0) (λ q. []) refl refl pass)
        (λ x m. by_pass (λ q. made q x (suc m)) (λ q. one q x ++ made q (x + 1) m) refl refl pass) n i)

    pub entry_walked : (i k : ℕ) {r : Labelled} {l m : Lowest} → EntryOf w (i + k) r → Lowered l (faults_in s w pass r.number) m → Lowered l (entry_faults i k) m
    entry_walked i k o = lowered_as (ap (faults_in s w pass) o.holds.number)

    -- ── one declaration
    pub type_walked : {i : ℕ} {r : Labelled} {l m : Lowest} → TypeOf w i r → Lowered l (faults_in s w pass r.number) m → Lowered l (declaration_faults pass (program_in s w) (type_declaration s w i)) m
    unfolding type_declaration
    type_walked {i} o =
        let own : Pass → List ℕ = λ q. declaration_faults q (program_in s w) (type_declaration s w i) in
        lowered_as (ap (faults_in s w pass) o.holds.number ∙ by_pass (λ q. faults_in s w q (type_at w i).1) own refl refl pass)

    -- what a process's entry adds up, after its names l
    abbrev parts : Pass → ProcessEntry → List Located → List ℕ
    parts q e l =
        label_faults q l
        ++ (entries_faults q (program_in s w) (entries_in s w e.first e.provided)
        ++ (entries_faults q (program_in s w) (entries_in s w (e.first + e.provided) e.used) ++ process_faults_in s w q e.body))

    process_parts : (e : ProcessEntry) → parts pass e (numbered (name_of s w (Entries e.first)) 0 (e.provided + e.used)) ≡ declaration_faults pass (program_in s w) (proc_by s w e)
    process_parts e =
        let names = channels (entries_in s w e.first e.provided) ++ channels (entries_in s w (e.first + e.provided) e.used) in
        ap (parts pass e) (signature_names e.first e.provided e.used)
        ∙ by_pass (λ q. parts q e names) (λ q. declaration_faults q (program_in s w) (proc_by s w e)) refl refl pass

    pub process_walked : {i : ℕ} {r : ProcessEntry} {l m : Lowest} → SignatureOf w i r → Lowered l (parts pass r (numbered (name_of s w (Entries r.first)) 0 (r.provided + r.used))) m → Lowered l (declaration_faults pass (program_in s w) (proc_declaration s w i)) m
    unfolding proc_declaration
    process_walked o = lowered_as (process_parts _ ∙ ap (λ e. declaration_faults pass (program_in s w) (proc_by s w e)) o.holds)

  pub exec_walked : {i r : ℕ} {l m : Lowest} → ExecOf w i r → Lowered l (unless_defined (program_in s w).processes (name_in s r)) m → Lowered l (own_undefined (program_in s w) (exec_declaration s w i)) m
  unfolding exec_declaration exec_in
  exec_walked o = lowered_as (ap (λ n. unless_defined (program_in s w).processes n) (sym (o.is s)))

  -- ── all of them
  pub repeated_in : {n m : ℕ} → n ≡ (tally_in w).types → m ≡ (tally_in w).processes → repeats [] (numbered (name_of s w Types) 0 n) ++ (repeats [] (numbered (name_of s w Processes) 0 m) ++ (of_types own_repeats s w ++ of_processes own_repeats s w)) ≡ repeated (script_in s w)
  unfolding repeated exec_declaration
  repeated_in e f =
      (λ j. repeats [] (numbered (name_of s w Types) 0 (e j)) ++ (repeats [] (numbered (name_of s w Processes) 0 (f j)) ++ (of_types own_repeats s w ++ of_processes own_repeats s w)))
      ∙ (λ j. repeats [] (type_names_lem s w j) ++ (repeats [] (process_names s w j) ++ without_execs s w own_repeats (λ i. refl) j))

  pub undefined_in : of_types (own_undefined (program_in s w)) s w ++ (of_processes (own_undefined (program_in s w)) s w ++ of_execs (own_undefined (program_in s w)) s w) ≡ undefined (script_in s w)
  unfolding undefined program_in
  undefined_in = gathered_in (own_undefined (program_of (script_in s w))) s w

  -- ── room for a signature's names
  module _ (t : Tables s w) {e : ProcessEntry} (g : SignatureIn s w e) where
    pub signature_fits : 0 < e.provided + e.used → e.first + (e.provided + e.used) ≤ type_term_limit
    signature_fits h = go e.used (entries_fit s w t (e.first + e.provided) e.used g.uses) h
      where
        go : (m : ℕ) → (0 < m → e.first + e.provided + m ≤ type_term_limit) → 0 < e.provided + m → e.first + (e.provided + m) ≤ type_term_limit
        go zero u v = let a = entries_fit s w t e.first e.provided g.provides (omega arith) in omega arith
        go (suc m) u v = let a = u (omega arith) in omega arith

    pub names_room : e.provided + e.used ≤ type_term_limit
    names_room = go (e.provided + e.used) signature_fits
      where
        go : (m : ℕ) → (0 < m → e.first + m ≤ type_term_limit) → m ≤ type_term_limit
        go zero u = omega arith
        go (suc m) u = let a = u (omega arith) in omega arith

    pub provided_room : (e.provided ≡ 0) ⊎ (e.first + e.provided ≤ type_term_limit)
    provided_room = go e.provided (entries_fit s w t e.first e.provided g.provides)
      where
        go : (m : ℕ) → (0 < m → e.first + m ≤ type_term_limit) → (m ≡ 0) ⊎ (e.first + m ≤ type_term_limit)
        go zero u = inl refl
        go (suc m) u = inr (u (omega arith))
