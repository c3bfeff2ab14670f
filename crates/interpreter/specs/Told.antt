-- The laws of the entries over the words w that hold an accepted text's tables, as the code has them.
use Rattle.std.specs.Prelude.{ℕ, ◌<◌, ◌≤◌, ◌≡◌, List, [], Bool, true, false, length, Ok}
use Rattle.std.proofs.Common.{sym, subst}
use Rattle.std.proofs.Math.Option.{some}
use Rattle.std.proofs.Math.ListN.{get_elem?}
use Rattle.notation.specs.Limits.{run_words}
use Rattle.notation.specs.Refusals.{OrRefusal, refusal, refuses}
use Rattle.notation.specs.Tree.{Located}
use Rattle.calculus.specs.Machine.{started, stepped, ran_on, name_given}
use Rattle.calculus.specs.Runs.{exec_of, run_on, places}
use Rattle.calculus.specs.Steps.{step}
use Rattle.calculus.specs.WellFormed.{WellFormed}
use Rattle.calculus.specs.declared.answers.RanOn.{RanOn}
use Rattle.calculus.specs.declared.answers.Stepped.{Stepped}
use Rattle.read_tables.specs.Program.{program_in}
use Rattle.run_words.specs.Raw.{raw_in}
use Rattle.run_words.specs.Decode.{is_halted}
use Rattle.run_alone.specs.declared.outcome.Outcome.{Outcome as OutcomeWords}
use Rattle.run_alone.specs.Run.{config_in, RunOf, Carries}
use Rattle.run_steps.specs.Running as machine
use Rattle.run_steps.specs.Dispatch.{SmallSignatures, small_signatures}
use Rattle.run_steps.specs.Starting.{Begins}
use Rattle.run_wellformed.specs.Formed.{Formed}
use Rattle.check_accepted.specs.Texts.{TextIn, over, under, tables_in, everywhere_in, bodies_in}
use Rattle.interpreter.specs.Entries.{Request, to_start, to_step, to_run_on, to_name, use_of, HoldsRun}
use Rattle.interpreter.specs.Past.{refusal_to, is_lent, read_lent}
use Rattle.interpreter.specs.Inside.{AnswersIn, Strange, answers_short, answers_stranger}
use Rattle.interpreter.specs.Runs as slices
use Rattle.interpreter.specs.Stepping as stepping
use Rattle.interpreter.specs.Stepping.{stepped_by}
use Rattle.interpreter.specs.RunningOn as running
use Rattle.interpreter.specs.Reporting as reporting
use Rattle.interpreter.specs.Reporting.{numbers_of, ReportsIn}
use Rattle.interpreter.specs.Listing.{Listed}
use Rattle.interpreter.specs.Surveying as surveying
use Rattle.interpreter.specs.Surveying.{SurveysIn}
use Rattle.interpreter.specs.Starting as starting
use Rattle.interpreter.specs.Starting.{started_by}

module _ {s w : List ℕ} (t : TextIn s w) where
  pub small_in : SmallSignatures (program_in s w)
  small_in = small_signatures (bodies_in t)

  -- ── a run that holds a configuration of the text
  pub holds_in : (ws : List ℕ) → Formed s w (raw_in ws) → HoldsRun s ws
  holds_in ws f = under t (λ x. Formed s x (raw_in ws)) f

  pub formed_in : (ws : List ℕ) → HoldsRun s ws → Formed s w (raw_in ws)
  formed_in ws f = over t (λ x. Formed s x (raw_in ws)) f

  pub run_in : (ws : List ℕ) → run_words ≤ length ws → HoldsRun s ws → RunOf s w ws
  run_in ws l f = slices.run_of s w (everywhere_in t) ws (tables_in t) l (formed_in ws f)

  pub well_formed_in : (ws : List ℕ) → HoldsRun s ws → WellFormed (program_in s w) (config_in s w ws)
  well_formed_in ws f = (formed_in ws f).is

  -- ── refusals 16 and 18
  pub too_short : (q : Request) {ws : List ℕ} → is_lent (use_of q) ≡ true → length ws < run_words → AnswersIn s q ws (refusal_to q 16 0) ws
  too_short q {ws} = answers_short s t.script t.accepts t.fits q ws

  pub short_strange : {ws : List ℕ} → length ws < run_words → Strange s ws (refusal 16 0)
  short_strange l = record { refuses = λ q r. too_short q (read_lent (use_of q) r) l }

  pub unknown_strange : {ws : List ℕ} → run_words ≤ length ws → ¬ HoldsRun s ws → Strange s ws (refusal 18 0)
  unknown_strange {ws} l d = record { refuses = λ q r. answers_stranger s t.script t.accepts t.fits q ws r l d }

  -- ── start
  pub start_told : {ws vs : List ℕ} {line : ℕ} {b d : Bool} → run_words ≤ length ws → Begins s w ws vs b (exec_of (program_in s w) line) → b ≡ d
      → AnswersIn s (to_start line) ws (started (started_by d)) vs
  start_told {ws} {vs} {line} {b} l m e =
      subst (λ x. AnswersIn s (to_start line) ws (started (started_by x)) vs) e
      (starting.start_told s t.script t.accepts t.fits line ws l (under t (λ x. Begins s x ws vs b (exec_of (program_in s x) line)) m))

  -- ── step
  module _ {ws : List ℕ} {place : ℕ} (l : run_words ≤ length ws) (f : HoldsRun s ws) where
    pub step_halted : is_halted (raw_in ws).halted ≡ true → AnswersIn s (to_step place) ws (stepped (refuses 22 0)) ws
    step_halted = stepping.step_halted s t.script t.accepts t.fits ws place l f

    pub step_nobody : is_halted (raw_in ws).halted ≡ false → length (raw_in ws).processes ≤ place → AnswersIn s (to_step place) ws (stepped (refuses 19 0)) ws
    step_nobody = stepping.step_nobody s t.script t.accepts t.fits ws place l f

    pub step_told : {vs : List ℕ} {a : OutcomeWords} {r : OrRefusal Stepped} → is_halted (raw_in ws).halted ≡ false → place < length (raw_in ws).processes → Carries s w ws vs a (step (program_in s w) (config_in s w ws) place) → r ≡ stepped_by a
        → AnswersIn s (to_step place) ws (stepped r) vs
    step_told {vs} {a} g h c e =
        subst (λ x. AnswersIn s (to_step place) ws (stepped x) vs) (sym e)
        (stepping.step_told s t.script t.accepts t.fits ws place l f g h (under t (λ x. Carries s x ws vs a (step (program_in s x) (config_in s x ws) place)) c))

  -- ── run-on
  pub run_told : {ws vs : List ℕ} {budget : ℕ} {r : RanOn} → run_words ≤ length ws → HoldsRun s ws
      → machine.RunsOn s w ws vs r (run_on (program_in s w) (config_in s w ws) budget) → AnswersIn s (to_run_on budget) ws (ran_on (Ok r)) vs
  run_told {ws} {vs} {budget} {r} l f m =
      running.run_told s t.script t.accepts t.fits ws l f budget (under t (λ x. machine.RunsOn s x ws vs r (run_on (program_in s x) (config_in s x ws) budget)) m)

  -- ── report
  pub report_open : {ws : List ℕ} {n : ℕ} {numbers : List ℕ} → run_words ≤ length ws → HoldsRun s ws → n ≡ length (raw_in ws).outside → Listed numbers (numbers_of (raw_in ws))
      → ReportsIn s ws (Ok (record { «open» = n; numbers = numbers }))
  report_open {ws} {n} {numbers} l h e f = reporting.report_open s t.script t.accepts t.fits ws l h n numbers e f

  -- ── places
  pub survey_told : {ws : List ℕ} {n : ℕ} {steps : List ℕ} → run_words ≤ length ws → HoldsRun s ws → n ≡ length (raw_in ws).processes → Listed steps (places (program_in s w) (config_in s w ws))
      → SurveysIn s ws (Ok (record { processes = n; steps = steps }))
  survey_told {ws} {n} {steps} l h e f = surveying.survey_told s t.script t.accepts t.fits ws l h n steps e (under t (λ x. Listed steps (places (program_in s x) (config_in s x ws))) f)

  -- ── the name of an exec line
  pub name_none : {line : ℕ} → length (program_in s w).execs ≤ line → AnswersIn s (to_name line) [] (name_given [] 17 0) []
  name_none {line} l = starting.name_none s t.script t.accepts t.fits line (under t (λ x. length (program_in s x).execs ≤ line) l)

  pub name_told : {line : ℕ} {part : List ℕ} (n : Located) → get_elem? (program_in s w).execs line ≡ some n → part ≡ n.name → AnswersIn s (to_name line) [] (name_given part 0 0) []
  name_told {line} n e q =
      subst (λ p. AnswersIn s (to_name line) [] (name_given p 0 0) []) (sym q)
      (starting.name_told s t.script t.accepts t.fits line n (under t (λ x. get_elem? (program_in s x).execs line ≡ some n) e))
