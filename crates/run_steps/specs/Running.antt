-- The run-on loop: "until the run has halted, a step shows something, no process is left, none can be carried out, or its budget is spent".
use Prim.Native.Nat.{ℕ, zero, suc, ◌+◌, ◌-◌, ◌<◌}
use Rattle.std.specs.Prelude.{◌≡◌, Bool, true, false, length}
use Rattle.std.proofs.Math.Path.{refl, ap}
use Rattle.std.proofs.Common.{sym, ◌∙◌, subst, true≢false, ◌⊎◌, inl, inr, arith}
use mathlib.Core.List.{List, [], ◌∷◌}
use Rattle.std.proofs.lemmas.Bool.{false≢true}
use Rattle.std.proofs.Math.Option.{Option, some, none}
use Rattle.calculus.specs.Named.{is_some}
use Rattle.calculus.specs.Program.{Program}
use Rattle.calculus.specs.Configuration.{Process, Config, halt}
use Rattle.calculus.specs.Steps.{Outcome, carried, uncaught, not_open, lacking, step}
use Rattle.calculus.specs.Runs.{choose_place, Ran, ran, or_done, or_full, or_uncaught, after_step, testing, run_from, run_on}
use Rattle.calculus.specs.declared.answers.Seen.{Seen}
use Rattle.calculus.specs.declared.answers.Seen.TheVariants.{Nothing, Label, Close, Passed, Cancelled}
use Rattle.calculus.specs.declared.answers.RanOn.{RanOn}
use Rattle.calculus.specs.declared.answers.RanOn.TheVariants.{Uncaught, Shown, Done, Full, Stopped}
use Rattle.calculus.specs.WellFormed.{WellFormed}
use Rattle.calculus.specs.Typing.{Bodies}
use Rattle.theory_reductions.specs.Halting.{carried_keeps}
use Rattle.theory_progress.specs.RunOn.{Shows, shown_ends, halted_ends, halted_runs}
use Rattle.theory_preservation.specs.Preserved.{preserved}
use Rattle.read_tables.specs.Program.{program_in}
use Rattle.run_words.specs.Raw.{raw_in}
use Rattle.run_alone.specs.declared.outcome.Outcome.{Outcome as OutcomeWords}
use Rattle.run_alone.specs.declared.outcome.Outcome.TheVariants as outcome
use Rattle.run_alone.specs.Run.{config_in, RunOf, Becomes, Carries}
use Rattle.run_alone.specs.Changes.{places_in}
use Rattle.run_steps.specs.Choosing.{step_first, step_chosen, was_carried}

-- a run-on's answer and what it leaves
pub record RunsOn (s w old new : List ℕ) (r : RanOn) (t : Ran) : Type 0 where
  pub answer : r ≡ t.answer
  pub becomes : Becomes s w old new t.config

abbrev pub shows : Seen → Bool
shows Nothing = false
shows (Label n l) = true
shows (Close n) = true
shows (Passed n m gone) = true
shows (Cancelled n) = true

nothing_shown : (seen : Seen) → shows seen ≡ false → seen ≡ Nothing
nothing_shown Nothing e = refl
nothing_shown (Label n l) e = absurd (true≢false e)
nothing_shown (Close n) e = absurd (true≢false e)
nothing_shown (Passed n m gone) e = absurd (true≢false e)
nothing_shown (Cancelled n) e = absurd (true≢false e)

-- what is carried out is not uncaught
told_carried : {seen : Seen} → ◌≡◌ {A = OutcomeWords} (outcome.Carried seen) outcome.Uncaught → ⊥
told_carried e = false≢true (ap is_uncaught e)
  where
    is_uncaught : OutcomeWords → Bool
    is_uncaught (outcome.Carried seen) = false
    is_uncaught outcome.Uncaught = true
    is_uncaught outcome.NotOpen = false
    is_uncaught outcome.Lacking = false

not_taken : {a : OutcomeWords} → (a ≡ outcome.NotOpen) ⊎ (a ≡ outcome.Lacking) → was_carried a ≡ false
not_taken (inl e) = ap was_carried e
not_taken (inr e) = ap was_carried e

-- what is shown, in the words of the theory
something_shown : (seen : Seen) → shows seen ≡ true → Shows seen
something_shown Nothing e = true≢false (sym e)
something_shown (Label n l) e = tt
something_shown (Close n) e = tt
something_shown (Passed n m gone) e = tt
something_shown (Cancelled n) e = tt

abbrev seen_of : OutcomeWords → Seen
seen_of (outcome.Carried seen) = seen
seen_of outcome.Uncaught = Nothing
seen_of outcome.NotOpen = Nothing
seen_of outcome.Lacking = Nothing

becomes_same : {s w old : List ℕ} → RunOf s w old → Becomes s w old old (config_in s w old)
becomes_same r = record { is = refl; run = r; past = refl; long = refl }

pub becomes_on : {s w old mid new : List ℕ} {C D : Config} → Becomes s w old mid C → Becomes s w mid new D → Becomes s w old new D
becomes_on a b = record { is = b.is; run = b.run; past = b.past ∙ a.past; long = b.long ∙ a.long }

module _ (p : Program) (C : Config) (b taken : ℕ) where
  -- what run-on comes to after a step with this outcome
  abbrev next : Outcome → Ran
  next o = after_step C o (λ s D. run_from p b (suc taken) s D) (ran (Full taken) C)

  -- the first test passed: the run has not halted
  going_on : C.halted ≡ false → (k : ℕ → Ran) → testing p Nothing taken C k ≡ or_done p taken C C.processes k
  going_on g k = ap (λ b. or_uncaught b taken C (or_done p taken C C.processes k)) g

  pub turn_empty : C.halted ≡ false → C.processes ≡ [] → (k : ℕ) → run_from p k taken Nothing C ≡ ran (Done taken) C
  unfolding run_from
  turn_empty g e zero = going_on g _ ∙ ap (λ l. or_done p taken C l (λ i. ran (Stopped taken) C)) e
  turn_empty g e (suc k) = going_on g _ ∙ ap (λ l. or_done p taken C l (λ i. after_step C (step p C i) (λ s D. run_from p k (suc taken) s D) (ran (Full taken) C))) e

  by_choice : (o : Option ℕ) → or_full taken C o (λ i. next (step p C i)) ≡ next (step_chosen p C o)
  by_choice none = refl
  by_choice (some i) = refl

  some_left : (l : List Process) (k : ℕ → Ran) → 0 < length l → or_done p taken C l k ≡ or_full taken C (choose_place p C) k
  some_left [] k h = absurd (omega (arith, h))
  some_left (q ∷ l) k h = refl

  pub turn_step : C.halted ≡ false → 0 < length C.processes → run_from p (suc b) taken Nothing C ≡ next (step_first p C)
  unfolding run_from
  turn_step g h = going_on g _ ∙ some_left C.processes (λ i. next (step p C i)) h ∙ by_choice (choose_place p C)

-- ── the budget is spent: the tests before a step, and no step
module _ (p : Program) (taken : ℕ) (C : Config) (going : C.halted ≡ false) where
  abbrev stops : Option ℕ → Ran
  stops o = or_full taken C o (λ i. ran (Stopped taken) C)

  stops_same : (o : Option ℕ) → (stops o).config ≡ C
  stops_same none = refl
  stops_same (some i) = refl

  spent_same : (run_from p 0 taken Nothing C).config ≡ C
  unfolding run_from
  spent_same = ap (λ (r : Ran). r.config) (going_on p C 0 taken going _) ∙ go C.processes
    where
      go : (l : List Process) → (or_done p taken C l (λ i. ran (Stopped taken) C)).config ≡ C
      go [] = refl
      go (q ∷ l) = stops_same (choose_place p C)

  spent_stops : 0 < length C.processes → run_from p 0 taken Nothing C ≡ stops (choose_place p C)
  unfolding run_from
  spent_stops h = going_on p C 0 taken going _ ∙ some_left p C 0 taken C.processes (λ i. ran (Stopped taken) C) h

  stops_here : (o : Option ℕ) → is_some o ≡ true → Stopped taken ≡ (stops o).answer
  stops_here none e = absurd (true≢false (sym e))
  stops_here (some i) e = refl

  stops_full : (o : Option ℕ) → is_some o ≡ false → Full taken ≡ (stops o).answer
  stops_full none e = refl
  stops_full (some i) e = absurd (true≢false e)

none_of : (l : List Process) → length l ≡ 0 → l ≡ []
none_of [] e = refl
none_of (q ∷ l) e = absurd (omega (arith, e))

module _ (s w ws : List ℕ) (taken : ℕ) (going : (config_in s w ws).halted ≡ false) where
  abbrev spent_answer : RanOn
  spent_answer = (run_from (program_in s w) 0 taken Nothing (config_in s w ws)).answer

  pub spent_done : length (raw_in ws).processes ≡ 0 → Done taken ≡ spent_answer
  spent_done z = sym (ap (λ (t : Ran). t.answer) (turn_empty (program_in s w) (config_in s w ws) 0 taken going (none_of (config_in s w ws).processes (places_in s w ws ∙ z)) 0))

  module _ (peopled : 0 < length (raw_in ws).processes) where
    as_chosen : (stops (program_in s w) taken (config_in s w ws) going (choose_place (program_in s w) (config_in s w ws))).answer ≡ spent_answer
    as_chosen = sym (ap (λ (t : Ran). t.answer) (spent_stops (program_in s w) taken (config_in s w ws) going (omega (arith, peopled, places_in s w ws))))

    pub spent_stopped : is_some (choose_place (program_in s w) (config_in s w ws)) ≡ true → Stopped taken ≡ spent_answer
    spent_stopped e = stops_here (program_in s w) taken (config_in s w ws) going (choose_place (program_in s w) (config_in s w ws)) e ∙ as_chosen

    pub spent_full : is_some (choose_place (program_in s w) (config_in s w ws)) ≡ false → Full taken ≡ spent_answer
    spent_full e = stops_full (program_in s w) taken (config_in s w ws) going (choose_place (program_in s w) (config_in s w ws)) e ∙ as_chosen

-- ── the loop: with `taken` steps taken, none of which showed anything, the words are ws
pub record Running (s w old ws : List ℕ) (budget taken : ℕ) : Type 0 where
  pub becomes : Becomes s w old ws (config_in s w ws)
  pub formed : WellFormed (program_in s w) (config_in s w ws)
  pub going : (config_in s w ws).halted ≡ false
  pub left : run_on (program_in s w) (config_in s w old) budget ≡ run_from (program_in s w) (budget - taken) taken Nothing (config_in s w ws)

module _ (s w old : List ℕ) (budget : ℕ) where
  abbrev P : Program
  P = program_in s w

  pub running_start : RunOf s w old → WellFormed P (config_in s w old) → (config_in s w old).halted ≡ false → Running s w old old budget 0
  unfolding run_on
  running_start r f g = record {
    becomes = becomes_same r;
    formed = f;
    going = g;
    left = ap (λ b. run_from P b 0 Nothing (config_in s w old)) (omega arith);
  }

  pub ends_done : (taken : ℕ) {ws : List ℕ} → Running s w old ws budget taken → length (raw_in ws).processes ≡ 0 → RunsOn s w old ws (Done taken) (run_on P (config_in s w old) budget)
  ends_done taken {ws} r z =
      let e = r.left ∙ turn_empty P (config_in s w ws) budget taken r.going (none_of (config_in s w ws).processes (places_in s w ws ∙ z)) (budget - taken) in
      subst (RunsOn s w old ws (Done taken)) (sym e) (record { answer = refl; becomes = r.becomes })

  pub ends_spent : {ws : List ℕ} {a : RanOn} → Running s w old ws budget budget → a ≡ (run_from P 0 budget Nothing (config_in s w ws)).answer → RunsOn s w old ws a (run_on P (config_in s w old) budget)
  ends_spent {ws} {a} r e =
      let z : budget - budget ≡ 0 = omega arith in
      subst (RunsOn s w old ws a) (sym (r.left ∙ ap (λ b. run_from P b budget Nothing (config_in s w ws)) z))
      (record { answer = e; becomes = subst (Becomes s w old ws) (sym (spent_same P budget (config_in s w ws) r.going)) r.becomes })

  module _ (taken : ℕ) {ws : List ℕ} (r : Running s w old ws budget taken) (below : taken < budget) (peopled : 0 < length (raw_in ws).processes) where
    abbrev C : Config
    C = config_in s w ws

    abbrev then : Outcome → Ran
    then o = next P C (budget - suc taken) taken o

    goes_on_lem : run_on P (config_in s w old) budget ≡ then (step_first P C)
    goes_on_lem = r.left ∙ ap (λ b. run_from P b taken Nothing C) (omega (arith, below)) ∙ turn_step P C (budget - suc taken) taken r.going (omega (arith, peopled, places_in s w ws))

    full_then : {new : List ℕ} {a : OutcomeWords} (o : Outcome) → Carries s w ws new a o → was_carried a ≡ false → (new ≡ ws) × (then o ≡ ran (Full taken) C)
    full_then (carried seen D) c e = absurd (true≢false (sym (ap was_carried c.is.0) ∙ e))
    full_then uncaught c e = absurd (true≢false (sym (ap was_carried c.is.0) ∙ e))
    full_then not_open c e = (c.is.1, refl)
    full_then lacking c e = (c.is.1, refl)

    pub ends_full : {new : List ℕ} {a : OutcomeWords} → Carries s w ws new a (step_first P C) → (a ≡ outcome.NotOpen) ⊎ (a ≡ outcome.Lacking) → RunsOn s w old new (Full taken) (run_on P (config_in s w old) budget)
    ends_full {new} c e =
        let f = full_then (step_first P C) c (not_taken e) in
        subst (RunsOn s w old new (Full taken)) (sym (goes_on_lem ∙ f.1)) (record { answer = refl; becomes = subst (λ l. Becomes s w old l C) (sym f.0) r.becomes })

    -- the step left a run that goes on
    record After (new : List ℕ) : Type 0 where
      becomes : Becomes s w ws new (config_in s w new)
      formed : WellFormed P (config_in s w new)
      going : (config_in s w new).halted ≡ false

    carried_then : {new : List ℕ} {seen : Seen} (o : Option ℕ) → Carries s w ws new (outcome.Carried seen) (step_chosen P C o) → Bodies P → (then (step_chosen P C o) ≡ run_from P (budget - suc taken) (suc taken) seen (config_in s w new)) × After new
    carried_then none c B = absurd (true≢false (ap was_carried c.is.0))
    carried_then {new} {seen} (some i) c B = go (step P C i) refl c
      where
        go : (o : Outcome) → step P C i ≡ o → Carries s w ws new (outcome.Carried seen) o → (then (step P C i) ≡ run_from P (budget - suc taken) (suc taken) seen (config_in s w new)) × After new
        go uncaught e c = absurd (told_carried c.is.0)
        go not_open e c = absurd (true≢false (ap was_carried c.is.0))
        go lacking e c = absurd (true≢false (ap was_carried c.is.0))
        go (carried t D) e c =
            let z = ap seen_of c.is.0 in
            let d = c.is.1.is in (
              ap then e ∙ ap (λ y. run_from P (budget - suc taken) (suc taken) y D) (sym z) ∙ ap (run_from P (budget - suc taken) (suc taken) seen) (sym d),
              record {
                becomes = subst (Becomes s w ws new) (sym d) c.is.1;
                formed = subst (WellFormed P) (sym d) (preserved P B C r.formed r.going i t D e);
                going = ap (λ (D : Config). D.halted) d ∙ carried_keeps P C D i t e ∙ r.going;
              },
            )

    module _ {new : List ℕ} {seen : Seen} (c : Carries s w ws new (outcome.Carried seen) (step_first P C)) (B : Bodies P) where
      pub ends_shown : shows seen ≡ true → RunsOn s w old new (Shown seen (taken + 1)) (run_on P (config_in s w old) budget)
      ends_shown e =
          let t = carried_then (choose_place P C) c B in
          subst (RunsOn s w old new (Shown seen (taken + 1))) (sym (goes_on_lem ∙ t.0 ∙ shown_ends P (budget - suc taken) (suc taken) seen (config_in s w new) t.1.going (something_shown seen e))) (record { answer = ap (Shown seen) (omega arith); becomes = becomes_on r.becomes t.1.becomes })

      pub running_on_lem : shows seen ≡ false → Running s w old new budget (taken + 1)
      running_on_lem e =
          let t = carried_then (choose_place P C) c B in
          subst (Running s w old new budget) (omega arith) (record {
            becomes = becomes_on r.becomes t.1.becomes;
            formed = t.1.formed;
            going = t.1.going;
            left = goes_on_lem ∙ t.0 ∙ ap (λ y. run_from P (budget - suc taken) (suc taken) y (config_in s w new)) (nothing_shown seen e);
          })

    -- a step that halts the run is taken too, and ends it
    halted_then : {new : List ℕ} (o : Outcome) → Carries s w ws new outcome.Uncaught o → Becomes s w ws new (halt C) × (then o ≡ ran (Uncaught (suc taken)) (halt C))
    halted_then (carried seen D) c = absurd (told_carried (sym c.is.0))
    halted_then uncaught c = (c.is.1, halted_ends P (budget - suc taken) (suc taken) Nothing (halt C) refl)
    halted_then not_open c = absurd (true≢false (ap was_carried c.is.0))
    halted_then lacking c = absurd (true≢false (ap was_carried c.is.0))

    pub ends_uncaught : {new : List ℕ} → Carries s w ws new outcome.Uncaught (step_first P C) → RunsOn s w old new (Uncaught (taken + 1)) (run_on P (config_in s w old) budget)
    ends_uncaught {new} c =
        let t = halted_then (step_first P C) c in
        subst (RunsOn s w old new (Uncaught (taken + 1))) (sym (goes_on_lem ∙ t.1)) (record { answer = ap Uncaught (omega arith); becomes = becomes_on r.becomes t.0 })

  -- a run that has halted already
  pub ends_halted : RunOf s w old → (config_in s w old).halted ≡ true → RunsOn s w old old (Uncaught 0) (run_on P (config_in s w old) budget)
  ends_halted r h = subst (RunsOn s w old old (Uncaught 0)) (sym (halted_runs P (config_in s w old) budget h)) (record { answer = refl; becomes = becomes_same r })
