-- When the declarations of a script are in order: what refusals 6 to 9 ask, in their words. The test of it is `declared` (Declarations.antt).
use Rattle.std.specs.Prelude.{◌≡◌, ◌≢◌, List, [], ◌++◌}
use Rattle.std.proofs.Math.Option.{some}
use Rattle.notation.specs.Tree.{Name, Located, Ty, unit, named, tensor, par, lolli, plus, with, Alternatives, alternative, Proc, empty, send_unit, send_channel, send_label, cancel, spawn, recv_unit, recv_channel, recv_label, fwd, call, raise, try, Branches, branch, Entry, Declaration, declare_type, declare_proc, declare_exec}
use Rattle.calculus.specs.Named.{In, NoneTwice, lookup, names}
use Rattle.calculus.specs.Program.{Signature, Program, program_of}
use Rattle.calculus.specs.Outward.{Outward}
use Rattle.calculus.specs.Typing.{names_of}
use Rattle.calculus.specs.Declarations.{gather, type_name, process_name, channels, choice_labels, branch_labels, entry_types}

-- no name of a list comes twice; a name is defined
abbrev pub Once : List Located → Type 0
Once ns = NoneTwice (names_of ns)

abbrev pub Defined : {X : Type 0} → Located → List (Name × X) → Type 0
Defined n l = In n.name (names l)

module _ (p : Program) where
  -- within a type, no label of one choice comes twice, and each name is defined
  unfoldable mutual
    pub TypeInOrder : Ty Located → Type 0
    TypeInOrder unit = Unit {0}
    TypeInOrder (named n) = Defined n p.types
    TypeInOrder (tensor A B) = TypeInOrder A × TypeInOrder B
    TypeInOrder (par A B) = TypeInOrder A × TypeInOrder B
    TypeInOrder (lolli A B) = TypeInOrder A × TypeInOrder B
    TypeInOrder (plus r) = Once (choice_labels r) × AlternativesInOrder r
    TypeInOrder (with r) = Once (choice_labels r) × AlternativesInOrder r

    pub AlternativesInOrder : Alternatives Located → Type 0
    AlternativesInOrder Alternatives.none = Unit {0}
    AlternativesInOrder (alternative l A r) = TypeInOrder A × AlternativesInOrder r

  -- within a process, so it is of its types, no label of one branch list comes twice, and each process called is defined
  unfoldable mutual
    pub ProcessInOrder : Proc → Type 0
    ProcessInOrder (empty at) = Unit {0}
    ProcessInOrder (send_unit at c P) = ProcessInOrder P
    ProcessInOrder (send_channel at c a P) = ProcessInOrder P
    ProcessInOrder (send_label at c l P) = ProcessInOrder P
    ProcessInOrder (cancel at c P) = ProcessInOrder P
    ProcessInOrder (spawn x A P Q) = TypeInOrder A × (ProcessInOrder P × ProcessInOrder Q)
    ProcessInOrder (recv_unit at c P) = ProcessInOrder P
    ProcessInOrder (recv_channel at c x P) = ProcessInOrder P
    ProcessInOrder (recv_label at c B) = Once (branch_labels B) × BranchesInOrder B
    ProcessInOrder (fwd at x c) = Unit {0}
    ProcessInOrder (call at q bracket xs ys) = Defined q p.processes
    ProcessInOrder (raise at P) = ProcessInOrder P
    ProcessInOrder (try at P Q) = ProcessInOrder P × ProcessInOrder Q

    pub BranchesInOrder : Branches → Type 0
    BranchesInOrder Branches.none = Unit {0}
    BranchesInOrder (branch l P B) = ProcessInOrder P × BranchesInOrder B

  abbrev pub EntriesInOrder : List Entry → Type 0
  EntriesInOrder l = (e : Entry) → In e l → TypeInOrder e.type

  -- a type is not defined as a bare name; no name of one signature comes twice; "An exec process uses nothing. Its provided types reach only 1, * and +, through names as well."
  abbrev pub DeclarationInOrder : Declaration → Type 0
  DeclarationInOrder (declare_type n A) = TypeInOrder A × ((m : Located) → A ≢ named m)
  DeclarationInOrder (declare_proc n xs ys P) = Once (channels xs ++ channels ys) × (EntriesInOrder xs × (EntriesInOrder ys × ProcessInOrder P))
  DeclarationInOrder (declare_exec n) = (s : Signature) × (lookup n.name p.processes ≡ some s) × (s.uses ≡ []) × ((A : Ty Name) → In A (entry_types s.provides) → Outward p A)

-- no type and no process is declared twice, and each declaration is in order
pub record InOrder (ds : List Declaration) : Type 0 where
  pub types : Once (gather type_name ds)
  pub processes : Once (gather process_name ds)
  pub each : (d : Declaration) → In d ds → DeclarationInOrder (program_of ds) d
