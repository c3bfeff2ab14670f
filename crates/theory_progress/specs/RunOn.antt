-- How run-on ends, in the words of the scope, and the steps that it counts.
use Rattle.std.specs.Prelude.{ℕ, zero, suc, ◌+◌, ◌≤◌, ◌≡◌, refl, ◌≢◌, ◌⊎◌, Bool, true, false}
use Rattle.std.proofs.Common.{suc-le-suc, arith, zero-add, sym, ◌∙◌, ap, inl, inr}
use mathlib.Core.List.{List, [], ◌∷◌, cons-ne-nil}
use Rattle.std.proofs.Math.Option.{Option, some, none}
use Rattle.calculus.specs.Program.{Program}
use Rattle.calculus.specs.Configuration.{Process, Config, halt}
use Rattle.calculus.specs.Steps.{carried, step}
use Rattle.calculus.specs.Runs.{choose_place, Ran, ran, or_full, or_done, or_shown, or_uncaught, testing, after_step, run_from, run_on}
use Rattle.calculus.specs.declared.answers.Seen.{Seen}
use Rattle.calculus.specs.declared.answers.Seen.TheVariants.{Nothing, Label, Close, Passed, Cancelled}
use Rattle.calculus.specs.declared.answers.RanOn.{RanOn}
use Rattle.calculus.specs.declared.answers.RanOn.TheVariants.{Uncaught, Shown, Done, Full, Stopped}
use Rattle.theory_reductions.specs.Halting.{Takes, carries_out, halts, carried_keeps}
use Rattle.theory_progress.specs.Chosen.{chosen_first}

-- a step at the chosen place, from C, which has not halted, to D
pub record Chosen (p : Program) (C : Config) (seen : Seen) (D : Config) : Type 0 where
  pub going : C.halted ≡ false
  pub place : ℕ
  pub chosen : choose_place p C ≡ some place
  pub takes : Takes p C place seen D

-- n steps, each at the chosen place
abbrev pub steps_to : Program → ℕ → Config → Config → Type 0
steps_to p zero C D = C ≡ D
steps_to p (suc n) C D = (seen : Seen) × (E : Config) × Chosen p C seen E × steps_to p n E D

-- the same, where none of them shows anything
abbrev pub quietly_to : Program → ℕ → Config → Config → Type 0
quietly_to p zero C D = C ≡ D
quietly_to p (suc n) C D = (E : Config) × Chosen p C Nothing E × quietly_to p n E D

-- something is shown
abbrev pub Shows : Seen → Type 0
Shows Nothing = ⊥
Shows (Label n l) = Unit {0}
Shows (Close n) = Unit {0}
Shows (Passed n m gone) = Unit {0}
Shows (Cancelled n) = Unit {0}

-- a step that shows something is carried out: one that halts the run shows nothing
pub shown_carried : {p : Program} {C : Config} {i : ℕ} {seen : Seen} {D : Config} → Takes p C i seen D → Shows seen → step p C i ≡ carried seen D
shown_carried (carries_out e) s = e
shown_carried (halts e) s = absurd s

-- n steps, of which the last one alone shows something
abbrev pub showing_to : Program → ℕ → Config → Seen → Config → Type 0
showing_to p zero C seen D = ⊥
showing_to p (suc n) C seen D = (E : Config) × quietly_to p n C E × Chosen p E seen D × Shows seen

-- "until the run has halted, a step shows something, no process is left, none can be carried out, or its budget is spent, tested in that order before each step":
-- the test that ends a run of n steps from C to D, by its answer
abbrev pub Ended : Program → ℕ → ℕ → Config → RanOn → Config → Type 0
Ended p budget n C (Uncaught t) D = (n ≤ budget) × quietly_to p n C D × (D.halted ≡ true)
Ended p budget n C (Shown seen t) D = (n ≤ budget) × showing_to p n C seen D × (D.halted ≡ false)
Ended p budget n C (Done t) D = (n ≤ budget) × quietly_to p n C D × (D.halted ≡ false) × (D.processes ≡ [])
Ended p budget n C (Full t) D = (n ≤ budget) × quietly_to p n C D × (D.halted ≡ false) × (D.processes ≢ []) × (choose_place p D ≡ none)
Ended p budget n C (Stopped t) D = (n ≡ budget) × quietly_to p n C D × (D.halted ≡ false) × (D.processes ≢ []) × (i : ℕ) × (choose_place p D ≡ some i)

-- the number that an answer gives
abbrev pub given : RanOn → ℕ
given (Uncaught t) = t
given (Shown seen t) = t
given (Done t) = t
given (Full t) = t
given (Stopped t) = t

-- one quiet step before
showing_later : (p : Program) (n : ℕ) {C E : Config} → Chosen p C Nothing E → (seen : Seen) (D : Config) → showing_to p n E seen D
    → showing_to p (suc n) C seen D
showing_later p zero c s D h = absurd h
showing_later p (suc n) {C} {E} c s D h = (h.0, (E, c, h.1), h.2, h.3)

later : (p : Program) (budget n : ℕ) {C E : Config} → Chosen p C Nothing E → (a : RanOn) (D : Config) → Ended p budget n E a D
    → Ended p (suc budget) (suc n) C a D
later p budget n {E = E} c (Uncaught t) D h = (suc-le-suc h.0, (E, c, h.1), h.2)
later p budget n c (Shown s t) D h = (suc-le-suc h.0, showing_later p n c s D h.1, h.2)
later p budget n {E = E} c (Done t) D h = (suc-le-suc h.0, (E, c, h.1), h.2, h.3)
later p budget n {E = E} c (Full t) D h = (suc-le-suc h.0, (E, c, h.1), h.2, h.3, h.4)
later p budget n {E = E} c (Stopped t) D h = (ap suc h.0, (E, c, h.1), h.2, h.3, h.4, h.5)

-- a run that gives the number of its steps beside those taken before
record Counts (p : Program) (budget taken : ℕ) (C : Config) (r : Ran) : Type 0 where
  count : ℕ
  gives : given r.answer ≡ taken + count
  ends : Ended p budget count C r.answer r.config

counts_later : {p : Program} {budget taken : ℕ} {C E : Config} {r : Ran} → Chosen p C Nothing E → Counts p budget (suc taken) E r
    → Counts p (suc budget) taken C r
counts_later {p} {budget} {r = r} c x =
    record { count = suc x.count; gives = (let g = x.gives in omega arith); ends = later p budget x.count c r.answer r.config x.ends }

-- the first test: the run has halted
unless_halted : (p : Program) (budget taken : ℕ) (C : Config) (r : Ran) → (C.halted ≡ false → Counts p budget taken C r) → Counts p budget taken C (or_uncaught C.halted taken C r)
unless_halted p budget taken C r f = go C.halted refl
  where
    go : (b : Bool) → C.halted ≡ b → Counts p budget taken C (or_uncaught b taken C r)
    go true e = record { count = 0; gives = omega arith; ends = (omega arith, refl, e) }
    go false e = f e

-- nor was anything shown
tested : (p : Program) (budget taken : ℕ) (C : Config) (k : ℕ → Ran)
    → (C.halted ≡ false → C.processes ≢ [] → (i : ℕ) → choose_place p C ≡ some i → Counts p budget taken C (k i))
    → Counts p budget taken C (testing p Nothing taken C k)
tested p budget taken C k f = unless_halted p budget taken C _ λ g. go g C.processes refl
  where
    full : C.halted ≡ false → C.processes ≢ [] → (o : Option ℕ) → choose_place p C ≡ o → Counts p budget taken C (or_full taken C o k)
    full g n none e = record { count = 0; gives = omega arith; ends = (omega arith, refl, g, n, e) }
    full g n (some i) e = f g n i e

    go : C.halted ≡ false → (l : List Process) → C.processes ≡ l → Counts p budget taken C (or_done p taken C l k)
    go g [] e = record { count = 0; gives = omega arith; ends = (omega arith, refl, g, e) }
    go g (q ∷ l) e = full g (λ z. cons-ne-nil q l (sym e ∙ z)) (choose_place p C) refl

shows_or_nothing : (seen : Seen) → Shows seen ⊎ (seen ≡ Nothing)
shows_or_nothing Nothing = inr refl
shows_or_nothing (Label n l) = inl tt
shows_or_nothing (Close n) = inl tt
shows_or_nothing (Passed n m gone) = inl tt
shows_or_nothing (Cancelled n) = inl tt

or_shown_lem : (p : Program) (taken : ℕ) (seen : Seen) (D : Config) (k : ℕ → Ran) → Shows seen → or_shown p seen taken D k ≡ ran (Shown seen taken) D
or_shown_lem p taken Nothing D k h = absurd h
or_shown_lem p taken (Label n l) D k h = refl
or_shown_lem p taken (Close n) D k h = refl
or_shown_lem p taken (Passed n m gone) D k h = refl
or_shown_lem p taken (Cancelled n) D k h = refl

testing_shown : (p : Program) (taken : ℕ) (seen : Seen) (D : Config) (k : ℕ → Ran) → D.halted ≡ false → Shows seen → testing p seen taken D k ≡ ran (Shown seen taken) D
testing_shown p taken seen D k g h = ap (λ b. or_uncaught b taken D (or_shown p seen taken D k)) g ∙ or_shown_lem p taken seen D k h

pub shown_ends : (p : Program) (budget taken : ℕ) (seen : Seen) (D : Config) → D.halted ≡ false → Shows seen → run_from p budget taken seen D ≡ ran (Shown seen taken) D
unfolding run_from
shown_ends p zero taken seen D g h = testing_shown p taken seen D _ g h
shown_ends p (suc budget) taken seen D g h = testing_shown p taken seen D _ g h

from_ends : (p : Program) (budget taken : ℕ) (C : Config) → Counts p budget taken C (run_from p budget taken Nothing C)
unfolding run_from
from_ends p zero taken C = tested p 0 taken C _ λ g n i e. record { count = 0; gives = omega arith; ends = (refl, refl, g, n, i, e) }
from_ends p (suc budget) taken C =
    tested p (suc budget) taken C _ λ g n i e. next g i e (chosen_first p C e).taken.takes (λ D. from_ends p budget (suc taken) D)
  where
    next : C.halted ≡ false → (i : ℕ) → choose_place p C ≡ some i → {seen : Seen} {D : Config} → Takes p C i seen D
        → ((D : Config) → Counts p budget (suc taken) D (run_from p budget (suc taken) Nothing D))
        → Counts p (suc budget) taken C (after_step C (step p C i) (λ s D. run_from p budget (suc taken) s D) (ran (Full taken) C))
    next g i e (halts h) r = rw h (counts_later (record { going = g; place = i; chosen = e; takes = halts h }) (r (halt C)))
    next g i e {seen} {D} (carries_out h) r = rw h (go seen h (shows_or_nothing seen))
      where
        go : (seen : Seen) → step p C i ≡ carried seen D → Shows seen ⊎ (seen ≡ Nothing) → Counts p (suc budget) taken C (run_from p budget (suc taken) seen D)
        go seen h (inl s) =
            let f = carried_keeps p C D i seen h ∙ g in
            rw (shown_ends p budget (suc taken) seen D f s)
            (record { count = 1; gives = omega arith; ends = (omega arith, (C, refl, record { going = g; place = i; chosen = e; takes = carries_out h }, s), f) })
        go seen h (inr z) = rw z (counts_later (record { going = g; place = i; chosen = e; takes = carries_out (rw (← z) h) }) (r D))

-- how a run-on ends
pub run_on_ends : (p : Program) (C : Config) (budget : ℕ)
    → Ended p budget (given (run_on p C budget).answer) C (run_on p C budget).answer (run_on p C budget).config
unfolding run_on
run_on_ends p C budget =
    let r = from_ends p budget 0 C in
    rw (r.gives, zero-add) r.ends

quiet_steps : (p : Program) (n : ℕ) (C D : Config) → quietly_to p n C D → steps_to p n C D
quiet_steps p zero C D h = h
quiet_steps p (suc n) C D h = (Nothing, h.0, h.1, quiet_steps p n h.0 D h.2)

then_step : (p : Program) (n : ℕ) (C : Config) {E D : Config} (seen : Seen) → steps_to p n C E → Chosen p E seen D → steps_to p (suc n) C D
then_step p zero C {D = D} seen h c = (seen, D, rw h c, refl)
then_step p (suc n) C seen h c = (h.0, h.1, h.2, then_step p n h.1 seen h.3 c)

showing_steps : (p : Program) (n : ℕ) (C D : Config) (seen : Seen) → showing_to p n C seen D → steps_to p n C D
showing_steps p zero C D seen h = absurd h
showing_steps p (suc n) C D seen h = then_step p n C seen (quiet_steps p n C h.0 h.1) h.2

-- "It gives the steps taken."
pub run_on_steps : (p : Program) (C : Config) (budget : ℕ) → steps_to p (given (run_on p C budget).answer) C (run_on p C budget).config
run_on_steps p C budget = go _ _ (run_on p C budget).answer (run_on_ends p C budget)
  where
    go : (n : ℕ) (D : Config) (a : RanOn) → Ended p budget n C a D → steps_to p n C D
    go n D (Uncaught t) h = quiet_steps p n C D h.1
    go n D (Shown seen t) h = showing_steps p n C D seen h.1
    go n D (Done t) h = quiet_steps p n C D h.1
    go n D (Full t) h = quiet_steps p n C D h.1
    go n D (Stopped t) h = quiet_steps p n C D h.1

-- a run that has halted takes no further step
halted_test : (C : Config) (taken : ℕ) (r : Ran) → C.halted ≡ true → or_uncaught C.halted taken C r ≡ ran (Uncaught taken) C
halted_test C taken r e = ap (λ b. or_uncaught b taken C r) e

pub halted_ends : (p : Program) (budget taken : ℕ) (seen : Seen) (C : Config) → C.halted ≡ true → run_from p budget taken seen C ≡ ran (Uncaught taken) C
unfolding run_from
halted_ends p zero taken seen C e = halted_test C taken _ e
halted_ends p (suc budget) taken seen C e = halted_test C taken _ e

pub halted_runs : (p : Program) (C : Config) (budget : ℕ) → C.halted ≡ true → run_on p C budget ≡ ran (Uncaught 0) C
unfolding run_on
halted_runs p C budget e = halted_ends p budget 0 Nothing C e
