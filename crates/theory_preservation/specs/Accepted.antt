-- An accepted script: its processes have what preservation asks of them, its types are one with what their names stand for, and each of its execs has a process and starts well.
use Rattle.std.specs.Prelude.{◌≡◌, refl, ◌≢◌, ℕ, zero, suc}
use Rattle.std.proofs.Math.Path.{sym, ap, subst}
use Rattle.std.proofs.Common.{◌∙◌}
use mathlib.Core.List.Memᴰ
use mathlib.Core.List.{List, [], ◌∷◌, ◌++◌}
use Rattle.std.proofs.Math.Option.{Option, some, none, get_or, none-ne-some, some-injective}
use Rattle.std.proofs.Math.ListN.{get_elem?}
use Rattle.notation.specs.Tree.{Name, Located, Ty, unit, named, tensor, par, lolli, plus, with, plain, Entry, Declaration, declare_type, declare_proc, declare_exec}
use Rattle.calculus.specs.Named.{In, NoneTwice, lookup, names}
use Rattle.calculus.specs.Types.{Side, provided, used, unfolded}
use Rattle.calculus.specs.Program.{Signature, Program, on_side, signature_context, entries, program_of}
use Rattle.calculus.specs.Declarations.{channels, entry_types}
use Rattle.calculus.specs.Outward.{Outward}
use Rattle.calculus.specs.InOrder.{DeclarationInOrder}
use Rattle.calculus.specs.OneType.{OneType}
use Rattle.calculus.specs.Typing.{names_of, Bodies}
use Rattle.calculus.specs.Accepted.{accepted, checked}
use Rattle.calculus.specs.Runs.{start_config, line_signature, exec_of}
use Rattle.calculus.specs.WellFormed.{WellFormed}
use Rattle.calculus.specs.Demands.{Derivable}
use Rattle.theory_derivations.specs.Named.{lookup_in}
use Rattle.theory_derivations.specs.OneType.{one_unfolded}
use Rattle.theory_derivations.specs.Accepts.{accepts}
use Rattle.theory_ends.specs.Names.{names_append}
use Rattle.theory_preservation.specs.Start.{start_well_formed}

-- ── the names of a signature
entry_names : (s : Side) (xs : List Entry) → names (on_side s (entries xs)) ≡ names_of (channels xs)
unfolding names
entry_names s [] = refl
entry_names s (x ∷ xs) = ap (λ r. x.channel.name ∷ r) (entry_names s xs)

names_of_append : (xs ys : List Located) → names_of (xs ++ ys) ≡ names_of xs ++ names_of ys
names_of_append [] ys = refl
names_of_append (x ∷ xs) ys = ap (λ r. x.name ∷ r) (names_of_append xs ys)

-- a process that is listed is declared, and so is an exec
module _ (p : Program) where
  process_declared : (ds : List Declaration) (n : Name) (s : Signature) → In (n, s) (program_of ds).processes → ((d : Declaration) → In d ds → DeclarationInOrder p d)
      → NoneTwice (names (signature_context s))
  unfolding program_of
  process_declared [] n s i o = absurd (Memᴰ.not-nil i)
  process_declared (declare_type m A ∷ ds) n s i o = process_declared ds n s i (λ d k. o d (Memᴰ.tail k))
  process_declared (declare_exec m ∷ ds) n s i o = process_declared ds n s i (λ d k. o d (Memᴰ.tail k))
  process_declared (declare_proc m xs ys P ∷ ds) n s (Memᴰ.tail i) o = process_declared ds n s i (λ d k. o d (Memᴰ.tail k))
  process_declared (declare_proc m xs ys P ∷ ds) n s (Memᴰ.head h) o =
      subst NoneTwice
      (names_of_append (channels xs) (channels ys) ∙ sym (λ j. entry_names provided xs j ++ entry_names used ys j)
      ∙ sym (names_append (on_side provided (entries xs)) (on_side used (entries ys)))
      ∙ ap (λ (x : Name × Signature). names (signature_context x.1)) (sym h)) (o (declare_proc m xs ys P) (Memᴰ.head refl)).0

exec_declared : (ds : List Declaration) (n : Located) → In n (program_of ds).execs → In (declare_exec n) ds
unfolding program_of
exec_declared [] n i = absurd (Memᴰ.not-nil i)
exec_declared (declare_type t A ∷ ds) n i = Memᴰ.tail (exec_declared ds n i)
exec_declared (declare_proc f xs ys P ∷ ds) n i = Memᴰ.tail (exec_declared ds n i)
exec_declared (declare_exec f ∷ ds) n (Memᴰ.tail i) = Memᴰ.tail (exec_declared ds n i)
exec_declared (declare_exec f ∷ ds) n (Memᴰ.head h) = Memᴰ.head (ap declare_exec h)

-- ── the definition of a name: no bare name, so it stands for itself
not_bare : (types : List (Name × Ty Name)) (A : Ty Located) → ((m : Located) → A ≢ named m) → unfolded types (plain A) ≡ plain A
unfolding plain
not_bare types unit f = refl
not_bare types (named n) f = absurd (f n refl)
not_bare types (tensor A B) f = refl
not_bare types (par A B) f = refl
not_bare types (lolli A B) f = refl
not_bare types (plus r) f = refl
not_bare types (with r) f = refl

definition_stands : (p : Program) (ds : List Declaration) → ((d : Declaration) → In d ds → DeclarationInOrder p d) → (n : Name) (D : Ty Name) → In (n, D) (program_of ds).types
    → unfolded p.types D ≡ D
unfolding program_of
definition_stands p [] o n D i = absurd (Memᴰ.not-nil i)
definition_stands p (declare_proc m xs ys P ∷ ds) o n D i = definition_stands p ds (λ d k. o d (Memᴰ.tail k)) n D i
definition_stands p (declare_exec m ∷ ds) o n D i = definition_stands p ds (λ d k. o d (Memᴰ.tail k)) n D i
definition_stands p (declare_type m A ∷ ds) o n D (Memᴰ.tail i) = definition_stands p ds (λ d k. o d (Memᴰ.tail k)) n D i
definition_stands p (declare_type m A ∷ ds) o n D (Memᴰ.head h) =
    subst (λ B. unfolded p.types B ≡ B) (ap (λ (x : Name × Ty Name). x.1) (sym h)) (not_bare p.types A (o (declare_type m A) (Memᴰ.head refl)).1)

-- ── what an accepted script gives
module _ (text : List ℕ) (ds : List Declaration) (a : checked text ≡ accepted ds) where
  derivable : Derivable text ds
  derivable = (accepts text ds).0 a

  in_order : (d : Declaration) → In d ds → DeclarationInOrder (program_of ds) d
  in_order = derivable.declarations.each

  signature_names : (n : Name) (s : Signature) → lookup n (program_of ds).processes ≡ some s → NoneTwice (names (signature_context s))
  signature_names n s e = process_declared (program_of ds) ds n s (lookup_in n (program_of ds).processes e) in_order

  pub accepted_bodies : Bodies (program_of ds)
  accepted_bodies = record { typed = λ n s e. derivable.derivation n s (lookup_in n (program_of ds).processes e); names = signature_names }

  -- ── each type is one with what its name stands for
  pub accepted_unfolds : (A : Ty Name) → OneType (program_of ds) A (unfolded (program_of ds).types A)
  accepted_unfolds A = one_unfolded (program_of ds) A (stands A)
    where
      types : List (Name × Ty Name)
      types = (program_of ds).types

      found : (n : Name) (o : Option (Ty Name)) → lookup n types ≡ o → unfolded types (get_or o (named n)) ≡ get_or o (named n)
      found n none e = ap (λ o. get_or o (named n)) e
      found n (some D) e = definition_stands (program_of ds) ds in_order n D (lookup_in n types e)

      stands : (A : Ty Name) → unfolded types (unfolded types A) ≡ unfolded types A
      stands unit = refl
      stands (named n) = found n (lookup n types) refl
      stands (tensor A B) = refl
      stands (par A B) = refl
      stands (lolli A B) = refl
      stands (plus r) = refl
      stands (with r) = refl

  -- ── each exec line starts well
  abbrev p : Program
  p = program_of ds

  pub exec_defined : (n : Located) → In n p.execs → (s : Signature) × (lookup n.name p.processes ≡ some s)
  exec_defined n i = let r = in_order (declare_exec n) (exec_declared ds n i) in (r.0, r.1)

  -- the signature of a line is that of an exec's process
  line_exec : (l : List Located) (line : ℕ) (s : Signature) → line_signature p (get_elem? l line) ≡ some s → (n : Located) × In n l × (lookup n.name p.processes ≡ some s)
  line_exec [] line s e = absurd (none-ne-some s e)
  line_exec (m ∷ l) zero s e = (m, Memᴰ.head refl, e)
  line_exec (m ∷ l) (suc line) s e = let r = line_exec l line s e in (r.0, Memᴰ.tail r.1, r.2)

  -- an exec's process: "An exec process uses nothing. Its provided types reach only 1, * and +"
  pub record ExecProcess (s : Signature) : Type 0 where
    pub name : Name
    pub declared : lookup name p.processes ≡ some s
    pub uses_nothing : s.uses ≡ []
    pub outwards : (A : Ty Name) → In A (entry_types s.provides) → Outward p A

  pub exec_process : (line : ℕ) (s : Signature) → exec_of p line ≡ some s → ExecProcess s
  unfolding exec_of
  exec_process line s e =
      let n = line_exec p.execs line s e in
      let r = in_order (declare_exec n.0) (exec_declared ds n.0 n.1) in
      let z = some-injective r.0 s (sym r.1 ∙ n.2) in
      record {
        name = n.0.name;
        declared = n.2;
        uses_nothing = subst (λ (s : Signature). s.uses ≡ []) z r.2;
        outwards = subst (λ (s : Signature). (A : Ty Name) → In A (entry_types s.provides) → Outward p A) z r.3;
      }

  pub accepted_start : (line : ℕ) (s : Signature) → exec_of p line ≡ some s → WellFormed p (start_config s)
  accepted_start line s e =
      let x = exec_process line s e in
      start_well_formed p s (signature_names x.name s x.declared) x.uses_nothing x.outwards (accepted_bodies.typed x.name s x.declared)
