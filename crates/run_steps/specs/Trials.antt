-- Steps that are only tried, on a copy of the run: the run itself stays as it is.
use Rattle.std.specs.Prelude.{ℕ, ◌<◌, ◌≡◌, List, true, false, length, get_or}
use Rattle.std.proofs.Common.{sym, ◌∙◌, ap, subst, arith}
use Rattle.notation.specs.Limits.{run_words}
use Rattle.notation.specs.Token.{name_at}
use Rattle.calculus.specs.Named.{is_some}
use Rattle.calculus.specs.Runs.{choose_place, openness}
use Rattle.calculus.specs.Steps as calculus
use Rattle.calculus.specs.WellFormed.{WellFormed}
use Rattle.read_tables.specs.Decode.{process_in}
use Rattle.read_tables.specs.Program.{plain_in, program_in}
use Rattle.read_tables.specs.Roots.{TypeIn}
use Rattle.run_words.specs.Lists.{All}
use Rattle.run_words.specs.Raw.{RawOutside, RawConfig, raw_in, Bounded}
use Rattle.run_words.specs.Decode.{decoded}
use Rattle.run_words.specs.SliceLaws.{raw_same}
use Rattle.run_alone.specs.declared.outcome.Outcome.{Outcome as OutcomeWords}
use Rattle.run_alone.specs.declared.outcome.Outcome.TheVariants.{Carried, Uncaught, NotOpen, Lacking}
use Rattle.run_alone.specs.Run.{config_in, Fits, RunOf, Carries}
use Rattle.run_steps.specs.Choosing.{was_carried, step_first, first_carried, answers_so}

-- the words of a run that are decoded
pub record CopyOf (ws copy : List ℕ) : Type 0 where
  pub long : length copy ≡ run_words
  pub same : (k : ℕ) → k < run_words → get_or copy k 0 ≡ get_or ws k 0

-- what an outcome says of its place in a run that has not halted: the calculus' own word for it
abbrev pub openness_by : OutcomeWords → ℕ
openness_by (Carried seen) = 1
openness_by Uncaught = 1
openness_by NotOpen = 0
openness_by Lacking = 2

openness_so : (s w old : List ℕ) {new : List ℕ} {a : OutcomeWords} (o : calculus.Outcome) → Carries s w old new a o → openness_by a ≡ openness false o
openness_so s w old (calculus.carried seen D) k = ap openness_by k.is.0
openness_so s w old calculus.uncaught k = ap openness_by k.is.0
openness_so s w old calculus.not_open k = ap openness_by k.is.0
openness_so s w old calculus.lacking k = ap openness_by k.is.0

-- in a halted run no step is open
pub openness_halted : (s w ws : List ℕ) (i : ℕ) → (config_in s w ws).halted ≡ true → 0 ≡ openness (config_in s w ws).halted (calculus.step (program_in s w) (config_in s w ws) i)
openness_halted s w ws i h = sym (ap (λ b. openness b (calculus.step (program_in s w) (config_in s w ws) i)) h)

module _ {s w ws copy : List ℕ} (r : RunOf s w ws) (c : CopyOf ws copy) where
  raw_copied : raw_in copy ≡ raw_in ws
  raw_copied = raw_same ws copy r.bounds c.same

  config_copied : config_in s w copy ≡ config_in s w ws
  config_copied = ap (decoded (name_at s) (plain_in s w) (process_in s w)) raw_copied

  pub run_copied : RunOf s w copy
  run_copied = record {
    tables = r.tables;
    wide = omega (arith, c.long);
    bounds = subst Bounded (sym raw_copied) r.bounds;
    processes = subst (λ (R : RawConfig). All (Fits s w) R.processes) (sym raw_copied) r.processes;
    outside = subst (λ (R : RawConfig). All (λ (o : RawOutside). TypeIn s w o.node) R.outside) (sym raw_copied) r.outside;
  }

  pub formed_copied : WellFormed (program_in s w) (config_in s w ws) → WellFormed (program_in s w) (config_in s w copy)
  formed_copied f = subst (WellFormed (program_in s w)) (sym config_copied) f

  pub can_go_on_so : {new : List ℕ} {a : OutcomeWords} → Carries s w copy new a (step_first (program_in s w) (config_in s w copy)) → was_carried a ≡ is_some (choose_place (program_in s w) (config_in s w ws))
  can_go_on_so k =
      sym (answers_so s w copy (step_first (program_in s w) (config_in s w copy)) k)
      ∙ first_carried (program_in s w) (config_in s w copy)
      ∙ ap (λ C. is_some (choose_place (program_in s w) C)) config_copied

  pub openness_at_so : {new : List ℕ} {a : OutcomeWords} (i : ℕ) → (config_in s w ws).halted ≡ false → Carries s w copy new a (calculus.step (program_in s w) (config_in s w copy) i) → openness_by a ≡ openness (config_in s w ws).halted (calculus.step (program_in s w) (config_in s w ws) i)
  openness_at_so i g k =
      openness_so s w copy (calculus.step (program_in s w) (config_in s w copy) i) k
      ∙ ap (λ C. openness false (calculus.step (program_in s w) C i)) config_copied
      ∙ ap (λ b. openness b (calculus.step (program_in s w) (config_in s w ws) i)) (sym g)
