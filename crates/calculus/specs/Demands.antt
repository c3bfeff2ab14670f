-- Demands 2 and 3 as statements about the definitions: the types that the theorems have.
use Rattle.std.specs.Prelude.{ℕ, ◌≤◌, ◌<◌, ◌≡◌, ◌↔◌, ◌≢◌, ◌⊎◌, List, [], ◌∷◌, Bool, true, false, length, Ok, is_err}
use Rattle.notation.specs.Limits.{scratch_words, run_words}
use Rattle.notation.specs.Refusals.{refuses}
use Rattle.notation.specs.Tree.{Name, Declaration}
use Rattle.grammar.specs.Notation.{Derives}
use Rattle.calculus.specs.Program.{Signature, Program, program_of}
use Rattle.calculus.specs.InOrder.{InOrder}
use Rattle.calculus.specs.Typing.{TypedBody}
use Rattle.calculus.specs.Accepted.{accepted, checked}
use Rattle.calculus.specs.Configuration.{Config, halt}
use Rattle.calculus.specs.Runs.{run_on}
use Rattle.calculus.specs.Forest.{joints}
use Rattle.calculus.specs.Named.{In}
use Rattle.calculus.specs.WellFormed.{WellFormed}
use Rattle.calculus.specs.Reduces.{Reduces, Halts, Lacks, Open}
use Rattle.calculus.specs.Machine.{Call, call_start, call_step, call_run_on, call_report, call_places, call_exec_name, Answer, started, stepped, ran_on, reported, surveyed, name_given, Reply, reply, Exchange, respond, idle, history}
use Rattle.calculus.specs.declared.answers.Seen.{Seen}
use Rattle.calculus.specs.declared.answers.Stepped.TheVariants as Steps
use Rattle.calculus.specs.declared.answers.RanOn.TheVariants as Runs

-- ── demand 2: "A script is accepted exactly when the typing rules give it a derivation"
-- the typing rules give every process of the script a derivation
abbrev pub Derivation : List Declaration → Type 0
Derivation ds = (n : Name) (s : Signature) → In (n, s) (program_of ds).processes → TypedBody (program_of ds) s

-- the rules of the notation derive the script from the text, its declarations are in order, and it has a derivation
pub record Derivable (text : List ℕ) (ds : List Declaration) : Type 0 where
  pub script : Derives text ds
  pub declarations : InOrder ds
  pub derivation : Derivation ds

-- lengths that pass refusals 1 and 16
pub record Enough (scratch run : ℕ) : Type 0 where
  pub scratch_enough : scratch_words ≤ scratch
  pub run_enough : run_words ≤ run

-- a call of step at place i, which meets C, answers that it was carried out and showed `seen`, and leaves D; or answers uncaught, and leaves C halted
abbrev pub Answered : List ℕ → Config → ℕ → ℕ → ℕ → Seen → Config → Type 0
Answered text C scratch run i seen D = respond text C (call_step scratch run i) ≡ reply (stepped (Ok (Steps.Carried seen))) D

abbrev pub AnsweredUncaught : List ℕ → Config → ℕ → ℕ → ℕ → Type 0
AnsweredUncaught text C scratch run i = respond text C (call_step scratch run i) ≡ reply (stepped (Ok Steps.Uncaught)) (halt C)

pub record Demand2 : Type 0 where
  pub accepts : (text : List ℕ) (ds : List Declaration) → (checked text ≡ accepted ds) ↔ Derivable text ds
  -- "a step is carried out exactly as the reduction rules say", in a run that has not halted
  pub carried_out : (text : List ℕ) (ds : List Declaration) → checked text ≡ accepted ds
      → (C : Config) (scratch run i : ℕ) → Enough scratch run
      → (seen : Seen) (D : Config) → Answered text C scratch run i seen D ↔ ((C.halted ≡ false) × Reduces (program_of ds) C i seen D)
  -- and answers uncaught exactly where they say that it halts
  pub uncaught : (text : List ℕ) (ds : List Declaration) → checked text ≡ accepted ds
      → (C : Config) (scratch run i : ℕ) → Enough scratch run
      → AnsweredUncaught text C scratch run i ↔ ((C.halted ≡ false) × Halts C i)
  -- "and each step that they open can be chosen": but for a lack of places and numbers, a call of its place carries it out, or halts the run
  pub chosen : (text : List ℕ) (ds : List Declaration) → checked text ≡ accepted ds
      → (C : Config) (scratch run i : ℕ) → Enough scratch run
      → Open (program_of ds) C i
      → ¬ Lacks C i
      → ((seen : Seen) × (D : Config) × Reduces (program_of ds) C i seen D × Answered text C scratch run i seen D) ⊎ (Halts C i × AnsweredUncaught text C scratch run i)

-- ── demand 3: "Nothing waits forever for a partner that can't come"
-- Well formed, so the joints are a forest and both ends of a channel have one type; while a process is left, joints are fewer than processes;
-- "While a process is left and the run has not halted, some step is open".
pub record Safe (p : Program) (C : Config) : Type 0 where
  pub well_formed : WellFormed p C
  pub fewer : C.processes ≢ [] → length (joints C) < length C.processes
  pub some_open : C.processes ≢ [] → C.halted ≡ false → (i : ℕ) × Open p C i

-- ── which calls are refused
abbrev pub is_refused : Answer → Bool
is_refused (started r) = is_err r
is_refused (stepped r) = is_err r
is_refused (ran_on r) = is_err r
is_refused (reported r l) = is_err r
is_refused (surveyed r l) = is_err r
is_refused (name_given l ℕ.zero i) = false
is_refused (name_given l (ℕ.suc n) i) = true

abbrev pub lengths : Call → Type 0
lengths (call_start scratch run line) = Enough scratch run
lengths (call_step scratch run place) = Enough scratch run
lengths (call_run_on scratch run budget) = Enough scratch run
lengths (call_report scratch run) = Enough scratch run
lengths (call_places scratch run) = Enough scratch run
lengths (call_exec_name scratch line) = Enough scratch run_words

-- with slices of enough words: a start and an exec's name exactly where the line is missing, a run-on, a report and a survey of the places never, an open step exactly where it lacks
abbrev pub RefusedWhere : Program → Config → Call → Answer → Type 0
RefusedWhere p C (call_start scratch run line) a = (is_refused a ≡ true) ↔ (length p.execs ≤ line)
RefusedWhere p C (call_step scratch run i) a = Open p C i → (is_refused a ≡ true) ↔ Lacks C i
RefusedWhere p C (call_run_on scratch run budget) a = is_refused a ≡ false
RefusedWhere p C (call_report scratch run) a = is_refused a ≡ false
RefusedWhere p C (call_places scratch run) a = is_refused a ≡ false
RefusedWhere p C (call_exec_name scratch line) a = (is_refused a ≡ true) ↔ (length p.execs ≤ line)

-- "between the steps of each run-on": what a run-on with a smaller budget leaves
abbrev pub SafeBetween : Program → Config → Call → Type 0
SafeBetween p C (call_start scratch run line) = Unit {0}
SafeBetween p C (call_step scratch run i) = Unit {0}
SafeBetween p C (call_run_on scratch run budget) = (b : ℕ) → b ≤ budget → Safe p (run_on p C b).config
SafeBetween p C (call_report scratch run) = Unit {0}
SafeBetween p C (call_places scratch run) = Unit {0}
SafeBetween p C (call_exec_name scratch line) = Unit {0}

-- "a halted run answers 22 to every step and uncaught to every run-on", and stays as it is; "A start begins anew"
abbrev pub AnsweredHalted : Config → Call → Reply → Type 0
AnsweredHalted C (call_start scratch run line) r = is_refused r.answer ≡ false → r.config.halted ≡ false
AnsweredHalted C (call_step scratch run i) r = r ≡ reply (stepped (refuses 22 0)) C
AnsweredHalted C (call_run_on scratch run budget) r = r ≡ reply (ran_on (Ok (Runs.Uncaught 0))) C
AnsweredHalted C (call_report scratch run) r = Unit {0}
AnsweredHalted C (call_places scratch run) r = Unit {0}
AnsweredHalted C (call_exec_name scratch line) r = Unit {0}

-- what demand 3 asks of a call of the plain machine
pub record SafeExchange (p : Program) (m : Exchange) : Type 0 where
  pub safe : Safe p m.after.config
  pub between : SafeBetween p m.before m.call
  pub refusals : lengths m.call → RefusedWhere p m.before m.call m.after.answer
  pub unchanged : is_refused m.after.answer ≡ true → m.after.config ≡ m.before
  pub halted : lengths m.call → m.before.halted ≡ true → AnsweredHalted m.before m.call m.after

-- one claim about every list of calls of the plain machine that begins with a start carried out
pub record PlainDemand3 : Type 0 where
  pub at_each_call : (text : List ℕ) (ds : List Declaration) (scratch run line : ℕ) (calls : List Call)
      → checked text ≡ accepted ds
      → (respond text idle (call_start scratch run line)).answer ≡ started (Ok tt)
      → (m : Exchange) → In m (history text idle (call_start scratch run line ∷ calls)) → SafeExchange (program_of ds) m
