-- A free place for a process that comes.
use Rattle.std.specs.Prelude.{ℕ, ◌≤◌, ◌<◌, refl, List, cond, length}
use Rattle.std.proofs.Common.{sym, subst, arith, lt-ltb, le-ltb}
use Rattle.notation.specs.Limits.{process_places}
use Rattle.calculus.specs.Steps.{Outcome, lacking, place_for}
use Rattle.run_words.specs.Raw.{raw_in}
use Rattle.run_alone.specs.declared.outcome.Outcome.{Outcome as OutcomeWords}
use Rattle.run_alone.specs.declared.outcome.Outcome.TheVariants.{Lacking}
use Rattle.run_alone.specs.Run.{config_in, Carries}
use Rattle.run_alone.specs.Changes.{places_in}

-- ── a free place
module _ (s w old : List ℕ) (o : Outcome) where
  pub no_place : process_places ≤ length (raw_in old).processes → Carries s w old old Lacking (place_for (config_in s w old) o)
  no_place h = subst (λ b. Carries s w old old Lacking (cond b o lacking)) (sym (le-ltb (length (config_in s w old).processes) process_places (omega (arith, places_in s w old)))) (record { is = (refl, refl) })

  pub a_place : {new : List ℕ} {r : OutcomeWords} → length (raw_in old).processes < process_places → Carries s w old new r o → Carries s w old new r (place_for (config_in s w old) o)
  a_place {new} {r} h c = subst (λ b. Carries s w old new r (cond b o lacking)) (sym (lt-ltb (length (config_in s w old).processes) process_places (omega (arith, places_in s w old)))) c
