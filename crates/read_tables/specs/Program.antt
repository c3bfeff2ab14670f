-- The program that the tables hold: its types, processes and execs by number.
use Prim.Native.Nat.{ℕ, zero, suc, ◌+◌}
use Rattle.std.specs.Prelude.{◌≡◌, List, [], ◌∷◌, ◌++◌}
use Rattle.std.proofs.Math.Path.{refl, ap}
use Rattle.std.proofs.Common.{sym, ◌∙◌}
use Rattle.notation.specs.Token.{name_at}
use Rattle.notation.specs.Tree.{Name, Located, Ty, Proc, Entry, Declaration, declare_type, declare_proc, declare_exec, plain}
use Rattle.notation.specs.Reader.{name_in}
use Rattle.calculus.specs.Program.{Signature, Program, entries, add_to, program_of}
use Rattle.notation.specs.declared.reading.ProcessEntry.{ProcessEntry}
use Rattle.read_tables.specs.Decode.{tally_in, type_at, process_at, exec_at, type_in, process_in, entries_in, type_declaration, proc_declaration, exec_declaration, numbered, script_in}
use Rattle.read_tables.specs.Scripts.{own_type, own_proc, own_exec, gather, sorted}

unfoldable pub program_in : List ℕ → List ℕ → Program
program_in s w = program_of (script_in s w)

-- ── its parts, by number
-- a type as it is compared and held
abbrev pub plain_in : List ℕ → List ℕ → ℕ → Ty Name
plain_in s w i = plain (type_in s w i)

unfoldable pub signature_of : List ℕ → List ℕ → ProcessEntry → Signature
signature_of s w e = record { provides = entries (entries_in s w e.first e.provided); uses = entries (entries_in s w (e.first + e.provided) e.used); body = process_in s w e.body }

unfoldable pub named_type : List ℕ → List ℕ → ℕ → Name × Ty Name
named_type s w i = (name_at s (type_at w i).0, plain_in s w (type_at w i).1)

unfoldable pub named_process : List ℕ → List ℕ → ℕ → Name × Signature
named_process s w i = (name_at s (process_at w i).at, signature_of s w (process_at w i))

unfoldable pub exec_in : List ℕ → List ℕ → ℕ → Located
exec_in s w i = name_in s (exec_at w i)

-- ── a program gathers what its declarations add
abbrev with_types : List (Name × Ty Name) → Program → Program
with_types l p = record { types = l ++ p.types; processes = p.processes; execs = p.execs }

abbrev with_processes : List (Name × Signature) → Program → Program
with_processes l p = record { types = p.types; processes = l ++ p.processes; execs = p.execs }

abbrev with_execs : List Located → Program → Program
with_execs l p = record { types = p.types; processes = p.processes; execs = l ++ p.execs }

append-nil : {A : Type 0} (l : List A) → l ++ [] ≡ l
append-nil [] = refl
append-nil (x ∷ l) = ap (◌∷◌ x) (append-nil l)

module _ (s w : List ℕ) where
  types_first : (i n : ℕ) (r : List Declaration) → program_of (numbered (type_declaration s w) i n ++ r) ≡ with_types (numbered (named_type s w) i n) (program_of r)
  unfolding program_of type_declaration named_type
  types_first i zero r = refl
  types_first i (suc n) r = ap (add_to (type_declaration s w i)) (types_first (i + 1) n r)

  processes_first : (i n : ℕ) (r : List Declaration) → program_of (numbered (proc_declaration s w) i n ++ r) ≡ with_processes (numbered (named_process s w) i n) (program_of r)
  unfolding program_of proc_declaration named_process signature_of
  processes_first i zero r = refl
  processes_first i (suc n) r = ap (add_to (proc_declaration s w i)) (processes_first (i + 1) n r)

  execs_only : (i n : ℕ) → program_of (numbered (exec_declaration s w) i n) ≡ record { types = []; processes = []; execs = numbered (exec_in s w) i n }
  unfolding program_of exec_declaration exec_in
  execs_only i zero = refl
  execs_only i (suc n) = ap (add_to (exec_declaration s w i)) (execs_only (i + 1) n)

  program_in_lem : program_in s w ≡ with_types (numbered (named_type s w) 0 (tally_in w).types) (with_processes (numbered (named_process s w) 0 (tally_in w).processes) (record { types = []; processes = []; execs = numbered (exec_in s w) 0 (tally_in w).execs }))
  unfolding program_in script_in
  program_in_lem =
      let k = tally_in w in
      types_first 0 k.types _
      ∙ ap (with_types (numbered (named_type s w) 0 k.types)) (processes_first 0 k.processes _ ∙ ap (with_processes (numbered (named_process s w) 0 k.processes)) (execs_only 0 k.execs))

  pub types_in : (program_in s w).types ≡ numbered (named_type s w) 0 (tally_in w).types
  types_in = ap (λ (p : Program). p.types) program_in_lem ∙ append-nil _

  pub processes_in : (program_in s w).processes ≡ numbered (named_process s w) 0 (tally_in w).processes
  processes_in = ap (λ (p : Program). p.processes) program_in_lem ∙ append-nil _

  pub execs_in : (program_in s w).execs ≡ numbered (exec_in s w) 0 (tally_in w).execs
  execs_in = ap (λ (p : Program). p.execs) program_in_lem

-- ── the order of declarations of different kinds does not matter
abbrev adding : List Declaration → Program → Program
adding [] p = p
adding (a ∷ l) p = add_to a (adding l p)

program_append : (l r : List Declaration) → program_of (l ++ r) ≡ adding l (program_of r)
unfolding program_of
program_append [] r = refl
program_append (a ∷ l) r = ap (add_to a) (program_append l r)

adding_append : (l r : List Declaration) (p : Program) → adding (l ++ r) p ≡ adding l (adding r p)
adding_append [] r p = refl
adding_append (a ∷ l) r p = ap (add_to a) (adding_append l r p)

-- a declaration may be added before or after those of another kind
abbrev Passes : (Declaration → List Declaration) → Declaration → Type 0
Passes kind a = (b : Declaration) (p : Program) → adding (kind b) (add_to a p) ≡ add_to a (adding (kind b) p)

past : (kind : Declaration → List Declaration) (a : Declaration) → Passes kind a → (ds : List Declaration) (p : Program) → adding (gather kind ds) (add_to a p) ≡ add_to a (adding (gather kind ds) p)
unfolding gather
past kind a h [] p = refl
past kind a h (b ∷ r) p =
    adding_append (kind b) (gather kind r) (add_to a p)
    ∙ ap (adding (kind b)) (past kind a h r p)
    ∙ h b (adding (gather kind r) p)
    ∙ ap (add_to a) (sym (adding_append (kind b) (gather kind r) p))

process_past_types : (n : Located) (xs ys : List Entry) (P : Proc) → Passes own_type (declare_proc n xs ys P)
process_past_types n xs ys P (declare_type m A) p = refl
process_past_types n xs ys P (declare_proc m xs' ys' Q) p = refl
process_past_types n xs ys P (declare_exec m) p = refl

exec_past_types : (n : Located) → Passes own_type (declare_exec n)
exec_past_types n (declare_type m A) p = refl
exec_past_types n (declare_proc m xs ys P) p = refl
exec_past_types n (declare_exec m) p = refl

exec_past_processes : (n : Located) → Passes own_proc (declare_exec n)
exec_past_processes n (declare_type m A) p = refl
exec_past_processes n (declare_proc m xs ys P) p = refl
exec_past_processes n (declare_exec m) p = refl

-- a script's program in three parts
in_parts : (x y z : List Declaration) → program_of (x ++ (y ++ z)) ≡ adding x (adding y (program_of z))
in_parts x y z = program_append x (y ++ z) ∙ ap (adding x) (program_append y z)

pub program_sorted : (ds : List Declaration) → program_of (sorted ds) ≡ program_of ds
unfolding program_of gather sorted
program_sorted [] = refl
program_sorted (declare_type n A ∷ r) = ap (add_to (declare_type n A)) (program_sorted r)
program_sorted (declare_proc n xs ys P ∷ r) =
    let a = declare_proc n xs ys P in
    let x = gather own_type r in
    let y = gather own_proc r in
    let z = gather own_exec r in
    in_parts x (a ∷ y) z ∙ past own_type a (process_past_types n xs ys P) r (adding y (program_of z)) ∙ ap (add_to a) (sym (in_parts x y z) ∙ program_sorted r)
program_sorted (declare_exec n ∷ r) =
    let a = declare_exec n in
    let x = gather own_type r in
    let y = gather own_proc r in
    let z = gather own_exec r in
    in_parts x y (a ∷ z)
    ∙ ap (adding x) (past own_proc a (exec_past_processes n) r (program_of z))
    ∙ past own_type a (exec_past_types n) r (adding y (program_of z))
    ∙ ap (add_to a) (sym (in_parts x y z) ∙ program_sorted r)
