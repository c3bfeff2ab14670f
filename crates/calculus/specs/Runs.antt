-- Start, run-on, report and places.
use Rattle.std.specs.Prelude.{ℕ, zero, suc, List, [], ◌∷◌, map, Bool, true, false, cond, length}
use Rattle.std.proofs.Math.Option.{Option, some, none}
use Rattle.std.proofs.Math.ListN.{get_elem?}
use Rattle.notation.specs.Tree.{Name, Located, Ty}
use Rattle.calculus.specs.Named.{lookup}
use Rattle.calculus.specs.Types.{provided}
use Rattle.calculus.specs.Program.{Signature, Program}
use Rattle.calculus.specs.Configuration.{End, end, running, Process, process, Outside, Config, config, halt}
use Rattle.calculus.specs.Steps.{Outcome, carried, uncaught, not_open, lacking, step}
use Rattle.calculus.specs.declared.answers.Seen.{Seen}
use Rattle.calculus.specs.declared.answers.Seen.TheVariants.{Nothing, Label, Close, Passed, Cancelled}
use Rattle.calculus.specs.declared.answers.RanOn.{RanOn}
use Rattle.calculus.specs.declared.answers.RanOn.TheVariants.{Uncaught, Shown, Done, Full, Stopped}

-- ── "Start makes one process, the exec process's body with its signature's channels."
abbrev pub start_held : ℕ → List (Name × Ty Name) → List (Name × End)
start_held k [] = []
start_held k (e ∷ l) = (e.0, end provided k e.1) ∷ start_held (suc k) l

-- "The outside uses these channels, numbered from 0 in list order."
abbrev pub start_outside : ℕ → List (Name × Ty Name) → List Outside
start_outside k [] = []
start_outside k (e ∷ l) = record { number = k; channel = k; type = e.1 } ∷ start_outside (suc k) l

unfoldable pub start_config : Signature → Config
start_config s = config (process (running s.body) (start_held 0 s.provides) none ∷ []) (start_outside 0 s.provides) (length s.provides)

-- the signature of an exec line's process, "numbered from 0"
abbrev pub line_signature : Program → Option Located → Option Signature
line_signature p none = none
line_signature p (some n) = lookup n.name p.processes

unfoldable pub exec_of : Program → ℕ → Option Signature
exec_of p line = line_signature p (get_elem? p.execs line)

-- ── "Run-on takes the first open place that can be carried out": one that halts the run too
abbrev pub is_taken : Outcome → Bool
is_taken (carried s D) = true
is_taken uncaught = true
is_taken not_open = false
is_taken lacking = false

unfoldable pub first_from : Program → Config → ℕ → List Process → Option ℕ
first_from p C i [] = none
first_from p C i (q ∷ l) = let r = first_from p C (suc i) l in cond (is_taken (step p C i)) (some i) r

-- run-on's choice of place
unfoldable pub choose_place : Program → Config → Option ℕ
choose_place p C = first_from p C 0 C.processes

pub record Ran : Type 0 where
  pub answer : RanOn
  pub config : Config

abbrev pub ran : RanOn → Config → Ran
ran a C = record { answer = a; config = C }

-- its tests in their order, before each step: the run has halted, a step showed something, no process is left, none can be carried out; then, with the place of the next step, its budget
abbrev pub or_full : ℕ → Config → Option ℕ → (ℕ → Ran) → Ran
or_full taken C none k = ran (Full taken) C
or_full taken C (some i) k = k i

abbrev pub or_done : Program → ℕ → Config → List Process → (ℕ → Ran) → Ran
or_done p taken C [] k = ran (Done taken) C
or_done p taken C (q ∷ l) k = or_full taken C (choose_place p C) k

abbrev pub or_shown : Program → Seen → ℕ → Config → (ℕ → Ran) → Ran
or_shown p Nothing taken C k = or_done p taken C C.processes k
or_shown p (Label n l) taken C k = ran (Shown (Label n l) taken) C
or_shown p (Close n) taken C k = ran (Shown (Close n) taken) C
or_shown p (Passed n m gone) taken C k = ran (Shown (Passed n m gone) taken) C
or_shown p (Cancelled n) taken C k = ran (Shown (Cancelled n) taken) C

abbrev pub or_uncaught : Bool → ℕ → Config → Ran → Ran
or_uncaught true taken C r = ran (Uncaught taken) C
or_uncaught false taken C r = r

abbrev pub testing : Program → Seen → ℕ → Config → (ℕ → Ran) → Ran
testing p seen taken C k = or_uncaught C.halted taken C (or_shown p seen taken C k)

-- the step at a place of C was taken: what it shows and leaves
abbrev pub after_step : Config → Outcome → (Seen → Config → Ran) → Ran → Ran
after_step C (carried s D) k r = k s D
after_step C uncaught k r = k Nothing (halt C)
after_step C not_open k r = r
after_step C lacking k r = r

-- with `taken` steps taken, the last of which showed `seen`, and so many still in the budget
unfoldable pub run_from : Program → ℕ → ℕ → Seen → Config → Ran
run_from p zero taken seen C = testing p seen taken C λ i. ran (Stopped taken) C
run_from p (suc budget) taken seen C =
    testing p seen taken C λ i.
    after_step C (step p C i) (λ s D. run_from p budget (suc taken) s D) (ran (Full taken) C)

-- "It gives the steps taken."
unfoldable pub run_on : Program → Config → ℕ → Ran
run_on p C budget = run_from p budget 0 Nothing C

-- ── "A report gives the numbers of the outside channels still open, rising, each once."
-- A well-formed configuration has them in rising order already; no other list rises and has exactly these numbers: `report_iff` (Reports.antt).
unfoldable pub report : Config → List ℕ
report C = map (λ (o : Outside). o.number) C.outside

-- ── "Places gives for each process whether its step is open, and whether it lacks a free place or number"
-- not open 0, open 1, open but lacking 2; "in a halted run none is" open
abbrev pub openness : Bool → Outcome → ℕ
openness true o = 0
openness false not_open = 0
openness false (carried s D) = 1
openness false uncaught = 1
openness false lacking = 2

unfoldable pub openness_from : Program → Config → ℕ → List Process → List ℕ
openness_from p C i [] = []
openness_from p C i (q ∷ l) = openness C.halted (step p C i) ∷ openness_from p C (suc i) l

unfoldable pub places : Program → Config → List ℕ
places p C = openness_from p C 0 C.processes
