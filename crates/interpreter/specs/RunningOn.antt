-- Run-on and the report of an entry, past the test of 18.
use Rattle.std.specs.Prelude.{ℕ, ◌≤◌, ◌≡◌, refl, List, length, Ok}
use Rattle.std.proofs.Common.{sym, ap, subst}
use Rattle.notation.specs.Limits.{run_words}
use Rattle.notation.specs.Tables.{tables, FitsTables}
use Rattle.notation.specs.Tree.{Declaration}
use Rattle.calculus.specs.Accepted.{accepted, checked}
use Rattle.calculus.specs.Configuration.{Config}
use Rattle.calculus.specs.Machine.{ran_on, reported}
use Rattle.calculus.specs.Program.{Program}
use Rattle.calculus.specs.Runs.{run_on, report}
use Rattle.calculus.specs.WellFormed.{WellFormed}
use Rattle.calculus.specs.declared.answers.RanOn.{RanOn}
use Rattle.theory_safety.specs.Safety.{run_keeps}
use Rattle.read_tables.specs.Program.{program_in}
use Rattle.run_steps.specs.Running as machine
use Rattle.check_accepted.specs.Texts.{program_is}
use Rattle.interpreter.specs.Entries.{to_run_on, to_report, HoldsRun, config_of}
use Rattle.interpreter.specs.Past.{past_run}
use Rattle.interpreter.specs.Inside.{AnswersIn, answers_past}
use Rattle.interpreter.specs.Runs.{leaves_run}

module _ (s : List ℕ) (ds : List Declaration) (ok : checked s ≡ accepted ds) (fits : FitsTables s) (ws : List ℕ) (wide : run_words ≤ length ws) (holds : HoldsRun s ws) where
  abbrev P : Program
  P = program_in s (tables s)

  abbrev C : Config
  C = config_of s ws

  kept : (budget : ℕ) → WellFormed P (run_on P C budget).config
  kept budget =
      subst (λ p. WellFormed p C → WellFormed p (run_on p C budget).config) (sym (program_is s ds ok fits)) (λ f. run_keeps s ds ok C f budget) holds.is

  pub run_told : {vs : List ℕ} {r : RanOn} (budget : ℕ) → machine.RunsOn s (tables s) ws vs r (run_on P C budget) → AnswersIn s (to_run_on budget) ws (ran_on (Ok r)) vs
  run_told {vs} budget m =
      answers_past s ds ok fits (to_run_on budget) ws (past_run P (to_run_on budget) C) refl (λ _. wide) (λ _. holds) (ap (λ a. ran_on (Ok a)) m.answer)
      (record { is = leaves_run s ws vs (run_on P C budget).config m.becomes (kept budget) })

  pub report_told : {n : ℕ} {l : List ℕ} → n ≡ length (report C) → l ≡ report C → AnswersIn s to_report ws (reported (Ok n) l) ws
  report_told e f =
      answers_past s ds ok fits to_report ws (past_run P to_report C) refl (λ _. wide) (λ _. holds) (λ j. reported (Ok (e j)) (f j))
      (record { is = record { holds = holds; is = refl; past = refl; long = refl } })
