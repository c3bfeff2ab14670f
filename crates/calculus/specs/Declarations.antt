-- Refusals 6 to 9: four passes over the whole text, each with the lowest offset where it applies. That none applies exactly where the declarations are in order (InOrder.antt) is `declared_iff`
-- (theory_derivations/specs/InOrder.antt).
use Rattle.std.specs.Prelude.{ℕ, zero, suc, List, [], ◌∷◌, ◌++◌, Bool, true, false, cond, not, ◌&&◌, ◌||◌, length}
use Rattle.std.proofs.Math.Option.{Option, some, none}
use Rattle.notation.specs.Bytes.{same}
use Rattle.notation.specs.Tree.{Name, Located, Ty, unit, named, tensor, par, lolli, plus, with, Alternatives, alternative, Proc, empty, send_unit, send_channel, send_label, cancel, spawn, recv_unit, recv_channel, recv_label, fwd, call, raise, try, Branches, branch, Entry, Declaration, declare_type, declare_proc, declare_exec}
use Rattle.calculus.specs.Named.{lookup, is_some, any_of, every}
use Rattle.calculus.specs.Program.{Program, Signature, program_of}
use Rattle.calculus.specs.Verdict.{Verdict, and_then, faults}

-- ── what a declaration has: its types, its process, its names
abbrev pub gather : {X : Type 0} → (Declaration → List X) → List Declaration → List X
gather f [] = []
gather f (a ∷ r) = f a ++ gather f r

abbrev pub type_name : Declaration → List Located
type_name (declare_type n A) = n ∷ []
type_name (declare_proc n xs ys P) = []
type_name (declare_exec n) = []

abbrev pub process_name : Declaration → List Located
process_name (declare_type n A) = []
process_name (declare_proc n xs ys P) = n ∷ []
process_name (declare_exec n) = []

abbrev pub channels : List Entry → List Located
channels [] = []
channels (e ∷ l) = e.channel ∷ channels l

-- ── 6: "A type, a process, a label of one choice or branch list, or a name of one signature comes twice", at the second of a pair
unfoldable pub repeats : List Name → List Located → List ℕ
repeats before [] = []
repeats before (n ∷ ns) = cond (any_of (same n.name) before) (n.at ∷ repeats before ns) (repeats (n.name ∷ before) ns)

abbrev pub choice_labels : Alternatives Located → List Located
choice_labels Alternatives.none = []
choice_labels (alternative l A r) = l ∷ choice_labels r

abbrev pub branch_labels : Branches → List Located
branch_labels Branches.none = []
branch_labels (branch l P B) = l ∷ branch_labels B

unfoldable mutual
  pub type_repeats : Ty Located → List ℕ
  type_repeats unit = []
  type_repeats (named n) = []
  type_repeats (tensor A B) = type_repeats A ++ type_repeats B
  type_repeats (par A B) = type_repeats A ++ type_repeats B
  type_repeats (lolli A B) = type_repeats A ++ type_repeats B
  type_repeats (plus r) = repeats [] (choice_labels r) ++ alternatives_repeats r
  type_repeats (with r) = repeats [] (choice_labels r) ++ alternatives_repeats r

  pub alternatives_repeats : Alternatives Located → List ℕ
  alternatives_repeats Alternatives.none = []
  alternatives_repeats (alternative l A r) = type_repeats A ++ alternatives_repeats r

abbrev pub entries_repeats : List Entry → List ℕ
entries_repeats [] = []
entries_repeats (e ∷ l) = type_repeats e.type ++ entries_repeats l

unfoldable mutual
  pub process_repeats : Proc → List ℕ
  process_repeats (empty at) = []
  process_repeats (send_unit at c P) = process_repeats P
  process_repeats (send_channel at c a P) = process_repeats P
  process_repeats (send_label at c l P) = process_repeats P
  process_repeats (cancel at c P) = process_repeats P
  process_repeats (spawn x A P Q) = type_repeats A ++ (process_repeats P ++ process_repeats Q)
  process_repeats (recv_unit at c P) = process_repeats P
  process_repeats (recv_channel at c x P) = process_repeats P
  process_repeats (recv_label at c B) = repeats [] (branch_labels B) ++ branches_repeats B
  process_repeats (fwd at x c) = []
  process_repeats (call at p bracket xs ys) = []
  process_repeats (raise at P) = process_repeats P
  process_repeats (try at P Q) = process_repeats P ++ process_repeats Q

  pub branches_repeats : Branches → List ℕ
  branches_repeats Branches.none = []
  branches_repeats (branch l P B) = process_repeats P ++ branches_repeats B

abbrev pub own_repeats : Declaration → List ℕ
own_repeats (declare_type n A) = type_repeats A
own_repeats (declare_proc n xs ys P) = repeats [] (channels xs ++ channels ys) ++ (entries_repeats xs ++ (entries_repeats ys ++ process_repeats P))
own_repeats (declare_exec n) = []

unfoldable pub repeated : List Declaration → List ℕ
repeated ds = repeats [] (gather type_name ds) ++ (repeats [] (gather process_name ds) ++ gather own_repeats ds)

-- ── 7: "A type or process is not defined"
abbrev pub unless_defined : {X : Type 0} → List (Name × X) → Located → List ℕ
unless_defined defined n = cond (is_some (lookup n.name defined)) [] (n.at ∷ [])

module _ (p : Program) where
  unfoldable mutual
    pub type_undefined : Ty Located → List ℕ
    type_undefined unit = []
    type_undefined (named n) = unless_defined p.types n
    type_undefined (tensor A B) = type_undefined A ++ type_undefined B
    type_undefined (par A B) = type_undefined A ++ type_undefined B
    type_undefined (lolli A B) = type_undefined A ++ type_undefined B
    type_undefined (plus r) = alternatives_undefined r
    type_undefined (with r) = alternatives_undefined r

    pub alternatives_undefined : Alternatives Located → List ℕ
    alternatives_undefined Alternatives.none = []
    alternatives_undefined (alternative l A r) = type_undefined A ++ alternatives_undefined r

  abbrev pub entries_undefined : List Entry → List ℕ
  entries_undefined [] = []
  entries_undefined (e ∷ l) = type_undefined e.type ++ entries_undefined l

  unfoldable mutual
    pub process_undefined : Proc → List ℕ
    process_undefined (empty at) = []
    process_undefined (send_unit at c P) = process_undefined P
    process_undefined (send_channel at c a P) = process_undefined P
    process_undefined (send_label at c l P) = process_undefined P
    process_undefined (cancel at c P) = process_undefined P
    process_undefined (spawn x A P Q) = type_undefined A ++ (process_undefined P ++ process_undefined Q)
    process_undefined (recv_unit at c P) = process_undefined P
    process_undefined (recv_channel at c x P) = process_undefined P
    process_undefined (recv_label at c B) = branches_undefined B
    process_undefined (fwd at x c) = []
    process_undefined (call at q bracket xs ys) = unless_defined p.processes q
    process_undefined (raise at P) = process_undefined P
    process_undefined (try at P Q) = process_undefined P ++ process_undefined Q

    pub branches_undefined : Branches → List ℕ
    branches_undefined Branches.none = []
    branches_undefined (branch l P B) = process_undefined P ++ branches_undefined B

  abbrev pub own_undefined : Declaration → List ℕ
  own_undefined (declare_type n A) = type_undefined A
  own_undefined (declare_proc n xs ys P) = entries_undefined xs ++ (entries_undefined ys ++ process_undefined P)
  own_undefined (declare_exec n) = unless_defined p.processes n

unfoldable pub undefined : List Declaration → List ℕ
undefined ds = gather (own_undefined (program_of ds)) ds

-- ── 8: "A type is defined as a bare name, in brackets or not", at the name standing as definition
abbrev pub bare_name : Ty Located → List ℕ
bare_name unit = []
bare_name (named n) = n.at ∷ []
bare_name (tensor A B) = []
bare_name (par A B) = []
bare_name (lolli A B) = []
bare_name (plus r) = []
bare_name (with r) = []

abbrev pub own_bare_name : Declaration → List ℕ
own_bare_name (declare_type n A) = bare_name A
own_bare_name (declare_proc n xs ys P) = []
own_bare_name (declare_exec n) = []

unfoldable pub bare_names : List Declaration → List ℕ
bare_names ds = gather own_bare_name ds

-- ── 9: "An exec process uses nothing. Its provided types reach only 1, * and +, through names as well."
-- a type has @, -o or &, or a name among those given
unfoldable mutual
  pub has_other : List Name → Ty Name → Bool
  has_other bad unit = false
  has_other bad (named n) = any_of (same n) bad
  has_other bad (tensor A B) = has_other bad A || has_other bad B
  has_other bad (par A B) = true
  has_other bad (lolli A B) = true
  has_other bad (plus r) = have_other bad r
  has_other bad (with r) = true

  pub have_other : List Name → Alternatives Name → Bool
  have_other bad Alternatives.none = false
  have_other bad (alternative l A r) = has_other bad A || have_other bad r

abbrev pub names_with_other : List Name → List (Name × Ty Name) → List Name
names_with_other bad [] = []
names_with_other bad (e ∷ l) = cond (has_other bad e.1) (e.0 ∷ names_with_other bad l) (names_with_other bad l)

-- the types, of those declared, whose definitions reach @, -o or & through fewer than n names
unfoldable pub reach_other : ℕ → List (Name × Ty Name) → List Name
reach_other zero types = []
reach_other (suc n) types = names_with_other (reach_other n types) types

-- "reach only 1, * and +, through names as well": no path without a repeated name is longer than there are types
unfoldable pub outward : Program → Ty Name → Bool
outward p A = not (has_other (reach_other (length p.types) p.types) A)

abbrev pub entry_types : List (Name × Ty Name) → List (Ty Name)
entry_types [] = []
entry_types (e ∷ l) = e.1 ∷ entry_types l

abbrev pub is_nil : {X : Type 0} → List X → Bool
is_nil [] = true
is_nil (x ∷ xs) = false

abbrev pub keeps_rule : Program → Option Signature → Bool
keeps_rule p none = true
keeps_rule p (some s) = is_nil s.uses && every (outward p) (entry_types s.provides)

abbrev pub breaking : Program → List Located → List ℕ
breaking p [] = []
breaking p (n ∷ ns) = cond (keeps_rule p (lookup n.name p.processes)) (breaking p ns) (n.at ∷ breaking p ns)

unfoldable pub wrong_execs : List Declaration → List ℕ
wrong_execs ds = breaking (program_of ds) (program_of ds).execs

-- the four passes in their order
unfoldable pub declared : List Declaration → Verdict
declared ds =
    and_then (faults 6 (repeated ds))
    (and_then (faults 7 (undefined ds))
    (and_then (faults 8 (bare_names ds)) (faults 9 (wrong_execs ds))))
