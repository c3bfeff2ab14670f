-- Run-on's choice: "the first open place that can be carried out", and the step there.
use Prim.Native.Nat.{ℕ, zero, suc, ◌+◌, ◌≤◌, ◌<◌}
use Rattle.std.specs.Prelude.{◌≡◌, Bool, cond, length, drop}
use Rattle.std.proofs.Math.Path.{refl}
use Rattle.std.proofs.Common.{sym, ◌∙◌, ap, subst, true≢false, arith}
use mathlib.Core.List.{List, [], ◌∷◌}
use Rattle.std.proofs.Math.Bool.{true, false}
use Rattle.std.proofs.Math.Option.{Option, some, none}
use Rattle.calculus.specs.Named.{is_some}
use Rattle.calculus.specs.Program.{Program}
use Rattle.calculus.specs.Configuration.{Process, Config}
use Rattle.calculus.specs.Steps.{Outcome, carried, uncaught, not_open, lacking, step}
use Rattle.calculus.specs.Runs.{is_taken, first_from, choose_place}
use Rattle.read_tables.specs.Program.{program_in}
use Rattle.run_alone.specs.declared.outcome.Outcome.{Outcome as OutcomeWords}
use Rattle.run_alone.specs.declared.outcome.Outcome.TheVariants.{Carried, Uncaught, NotOpen, Lacking}
use Rattle.run_alone.specs.Run.{config_in, Carries}
use Rattle.run_alone.specs.Changes.{places_in}
use Rattle.run_words.specs.Raw.{raw_in}

abbrev pub step_chosen : Program → Config → Option ℕ → Outcome
step_chosen p C none = not_open
step_chosen p C (some i) = step p C i

abbrev pub step_first : Program → Config → Outcome
step_first p C = step_chosen p C (choose_place p C)

abbrev pub was_carried : OutcomeWords → Bool
was_carried (Carried seen) = true
was_carried Uncaught = true
was_carried NotOpen = false
was_carried Lacking = false

-- no place before i is the choice
pub record Skipped (p : Program) (C : Config) (i : ℕ) : Type 0 where
  pub left : choose_place p C ≡ first_from p C i (drop i C.processes)

module _ (p : Program) (C : Config) where
  turn : (l : List Process) (i k : ℕ) → k < length l → first_from p C i (drop k l) ≡ cond (is_taken (step p C i)) (some i) (first_from p C (suc i) (drop (suc k) l))
  unfolding first_from
  turn [] i k h = absurd (omega arith)
  turn (q ∷ l) i zero h = refl
  turn (q ∷ l) i (suc k) h = turn l i k (omega arith)

  ended : (l : List Process) (i k : ℕ) → length l ≤ k → first_from p C i (drop k l) ≡ none
  unfolding first_from
  ended [] i zero h = refl
  ended [] i (suc k) h = refl
  ended (q ∷ l) i zero h = absurd (omega arith)
  ended (q ∷ l) i (suc k) h = ended l i k (omega arith)

  pub skipped_none : Skipped p C 0
  unfolding choose_place
  skipped_none = record { left = refl }

  pub skipped_more : {i : ℕ} → Skipped p C i → i < length C.processes → is_taken (step p C i) ≡ false → Skipped p C (suc i)
  skipped_more {i} k h e = record { left = k.left ∙ turn C.processes i i h ∙ ap (λ b. cond b (some i) (first_from p C (suc i) (drop (suc i) C.processes))) e }

  chosen_here : {i : ℕ} → Skipped p C i → i < length C.processes → is_taken (step p C i) ≡ true → choose_place p C ≡ some i
  chosen_here {i} k h e = k.left ∙ turn C.processes i i h ∙ ap (λ b. cond b (some i) (first_from p C (suc i) (drop (suc i) C.processes))) e

  none_left : {i : ℕ} → Skipped p C i → length C.processes ≤ i → choose_place p C ≡ none
  none_left {i} k h = k.left ∙ ended C.processes i i h

  -- a place that is chosen is one whose step is taken
  chosen_carried : (i : ℕ) (l : List Process) → is_taken (step_chosen p C (first_from p C i l)) ≡ is_some (first_from p C i l)
  unfolding first_from
  chosen_carried i [] = refl
  chosen_carried i (q ∷ l) = go (is_taken (step p C i)) refl (chosen_carried (suc i) l)
    where
      go : (b : Bool) → is_taken (step p C i) ≡ b → is_taken (step_chosen p C (first_from p C (suc i) l)) ≡ is_some (first_from p C (suc i) l)
          → is_taken (step_chosen p C (cond b (some i) (first_from p C (suc i) l))) ≡ is_some (cond b (some i) (first_from p C (suc i) l))
      go true e r = e
      go false e r = r

  pub first_carried : is_taken (step_first p C) ≡ is_some (choose_place p C)
  unfolding choose_place
  first_carried = chosen_carried 0 C.processes

-- ── the code's answers by the calculus' own
module _ (s w old : List ℕ) where
  abbrev P : Program
  P = program_in s w

  abbrev C : Config
  C = config_in s w old

  pub answers_so : {new : List ℕ} {r : OutcomeWords} (o : Outcome) → Carries s w old new r o → is_taken o ≡ was_carried r
  answers_so (carried seen D) c = sym (ap was_carried c.is.0)
  answers_so uncaught c = sym (ap was_carried c.is.0)
  answers_so not_open c = sym (ap was_carried c.is.0)
  answers_so lacking c = sym (ap was_carried c.is.0)

  as_before : {new : List ℕ} {r : OutcomeWords} (o : Outcome) → Carries s w old new r o → is_taken o ≡ false → new ≡ old
  as_before (carried seen D) c e = absurd (true≢false e)
  as_before uncaught c e = absurd (true≢false e)
  as_before not_open c e = c.is.1
  as_before lacking c e = c.is.1

  -- the run is as it was when the choice began
  pub from_same : (i : ℕ) {run new : List ℕ} {r : OutcomeWords} → run ≡ old → Carries s w run new r (step P (config_in s w run) i) → Carries s w old new r (step P C i)
  from_same i {new = new} {r = r} same c = subst (λ l. Carries s w l new r (step P (config_in s w l) i)) same c

  pub skips : (i : ℕ) {new : List ℕ} {r : OutcomeWords} → Skipped P C i → i < length (raw_in old).processes → Carries s w old new r (step P C i) → was_carried r ≡ false → (new ≡ old) × Skipped P C (i + 1)
  skips i k h c e =
      let no = answers_so (step P C i) c ∙ e in
      (as_before (step P C i) c no, subst (Skipped P C) (omega arith) (skipped_more P C k (omega (arith, h, places_in s w old)) no))

  pub carries_first : (i : ℕ) {new : List ℕ} {r : OutcomeWords} → Skipped P C i → i < length (raw_in old).processes → Carries s w old new r (step P C i) → was_carried r ≡ true → Carries s w old new r (step_first P C)
  carries_first i {new} {r} k h c e = subst (λ o. Carries s w old new r (step_chosen P C o)) (sym (chosen_here P C k (omega (arith, h, places_in s w old)) (answers_so (step P C i) c ∙ e))) c

  pub carries_none : (i : ℕ) {run : List ℕ} → run ≡ old → Skipped P C i → length (raw_in old).processes ≤ i → Carries s w old run NotOpen (step_first P C)
  carries_none i {run} same k h = subst (λ o. Carries s w old run NotOpen (step_chosen P C o)) (sym (none_left P C k (omega (arith, h, places_in s w old)))) (record { is = (refl, same) })
