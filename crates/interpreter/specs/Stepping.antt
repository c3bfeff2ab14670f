-- The step of an entry, past the test of 18: refusals 22 and 19 to 21, or what the machine's step shows and leaves.
use Rattle.std.specs.Prelude.{ℕ, ◌<◌, ◌≤◌, ◌≡◌, refl, Bool, true, false, List, length, Ok}
use Rattle.std.proofs.Common.{◌∙◌, ap, arith}
use Rattle.std.proofs.Math.Option.{Option, some, none}
use Rattle.notation.specs.Limits.{run_words}
use Rattle.notation.specs.Refusals.{OrRefusal, refuses}
use Rattle.notation.specs.Tables.{tables, FitsTables}
use Rattle.notation.specs.Tree.{Declaration}
use Rattle.calculus.specs.Accepted.{accepted, checked}
use Rattle.calculus.specs.Configuration.{Process, Config, halt, at}
use Rattle.calculus.specs.Machine.{stepped, Reply, reply, on_going, on_place, on_step}
use Rattle.calculus.specs.Program.{Program}
use Rattle.calculus.specs.Steps.{Outcome, carried, uncaught, not_open, lacking, step}
use Rattle.calculus.specs.declared.answers.Stepped.{Stepped}
use Rattle.calculus.specs.declared.answers.Stepped.TheVariants.{Carried, Uncaught}
use Rattle.theory_ends.specs.Lists.{none_past, found_below}
use Rattle.theory_preservation.specs.Preserved.{preserved, halts_preserves}
use Rattle.theory_reductions.specs.StepIff.{halts_iff}
use Rattle.read_tables.specs.Program.{program_in}
use Rattle.run_words.specs.Raw.{raw_in}
use Rattle.run_alone.specs.declared.outcome.Outcome.{Outcome as OutcomeWords}
use Rattle.run_alone.specs.declared.outcome.Outcome.TheVariants as words
use Rattle.run_alone.specs.Run.{Carries}
use Rattle.run_alone.specs.Changes.{places_in}
use Rattle.check_accepted.specs.Texts.{bodies_typed}
use Rattle.interpreter.specs.Entries.{to_step, HoldsRun, config_of, RunAfter}
use Rattle.interpreter.specs.Past.{refuse}
use Rattle.interpreter.specs.Inside.{AnswersIn, answers_past}
use Rattle.interpreter.specs.Runs.{leaves_run}

-- what a step's outcome is as an answer
abbrev pub stepped_by : OutcomeWords → OrRefusal Stepped
stepped_by (words.Carried seen) = Ok (Carried seen)
stepped_by words.Uncaught = Ok Uncaught
stepped_by words.NotOpen = refuses 20 0
stepped_by words.Lacking = refuses 21 0

module _ (s : List ℕ) (ds : List Declaration) (ok : checked s ≡ accepted ds) (fits : FitsTables s) (ws : List ℕ) (place : ℕ) where
  abbrev P : Program
  P = program_in s (tables s)

  abbrev C : Config
  C = config_of s ws

  -- the plain machine's reply, by the outcome and by whether a process is there
  abbrev by_outcome : Outcome → Reply
  by_outcome o = on_step o (refuse (to_step place) C) (λ seen D. reply (stepped (Ok (Carried seen))) D) (reply (stepped (Ok Uncaught)) (halt C))

  abbrev by_place : Option Process → Reply
  by_place q = on_place q (refuse (to_step place) C) (by_outcome (step P C place))

  -- and by whether the run has halted
  abbrev by_halt : Bool → Reply
  by_halt b = on_going b (refuse (to_step place) C) (by_place (at C place))

  module _ (wide : run_words ≤ length ws) (holds : HoldsRun s ws) where
    pub step_halted : C.halted ≡ true → AnswersIn s (to_step place) ws (stepped (refuses 22 0)) ws
    step_halted h = answers_past s ds ok fits (to_step place) ws (refuse (to_step place) C 22 0) (ap by_halt h) (λ _. wide) (λ _. holds) refl (record { is = refl })

    pub step_nobody : C.halted ≡ false → length (raw_in ws).processes ≤ place → AnswersIn s (to_step place) ws (stepped (refuses 19 0)) ws
    step_nobody g l = go (at C place) refl
      where
        go : (o : Option Process) → at C place ≡ o → AnswersIn s (to_step place) ws (stepped (refuses 19 0)) ws
        go none e = answers_past s ds ok fits (to_step place) ws (refuse (to_step place) C 19 0) (ap by_halt g ∙ ap by_place e) (λ _. wide) (λ _. holds) refl (record { is = refl })
        go (some q) e = absurd (omega (arith, found_below C.processes place e, places_in s (tables s) ws))

    module _ (going : C.halted ≡ false) (below : place < length (raw_in ws).processes) where
      there : by_place (at C place) ≡ by_outcome (step P C place)
      there = go (at C place) refl
        where
          go : (o : Option Process) → at C place ≡ o → by_place o ≡ by_outcome (step P C place)
          go none e = absurd (omega (arith, below, none_past C.processes place e, places_in s (tables s) ws))
          go (some q) e = refl

      pub step_told : {vs : List ℕ} {a : OutcomeWords} → Carries s (tables s) ws vs a (step P C place) → AnswersIn s (to_step place) ws (stepped (stepped_by a)) vs
      step_told {vs} {a} c = go (step P C place) refl c
        where
          answered : (o : Outcome) → step P C place ≡ o → stepped (stepped_by a) ≡ (by_outcome o).answer → RunAfter s (to_step place) ws vs (by_outcome o)
              → AnswersIn s (to_step place) ws (stepped (stepped_by a)) vs
          answered o e q u = answers_past s ds ok fits (to_step place) ws (by_outcome o) (ap by_halt going ∙ there ∙ ap by_outcome e) (λ _. wide) (λ _. holds) q u

          go : (o : Outcome) → step P C place ≡ o → Carries s (tables s) ws vs a o → AnswersIn s (to_step place) ws (stepped (stepped_by a)) vs
          go (carried seen D) e c =
              answered (carried seen D) e (ap (λ x. stepped (stepped_by x)) c.is.0)
              (record { is = leaves_run s ws vs D c.is.1 (preserved P (bodies_typed s ds ok fits) C holds.is going place seen D e) })
          go uncaught e c =
              answered uncaught e (ap (λ x. stepped (stepped_by x)) c.is.0)
              (record { is = leaves_run s ws vs (halt C) c.is.1 (halts_preserves P holds.is ((halts_iff P C place).0 e)) })
          go not_open e c = answered not_open e (ap (λ x. stepped (stepped_by x)) c.is.0) (record { is = c.is.1 })
          go lacking e c = answered lacking e (ap (λ x. stepped (stepped_by x)) c.is.0) (record { is = c.is.1 })
