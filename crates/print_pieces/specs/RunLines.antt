-- The lines of a run, asked for piece by piece: the steps that run-on counts, and the fuel of `run_lines`, which never runs out.
use Rattle.std.specs.Prelude.{ℕ, zero, suc, ◌+◌, ◌-◌, ◌≤◌, ◌<◌, ◌≡◌, refl, List}
use Rattle.std.proofs.Common.{ap, subst, arith}
use Rattle.calculus.specs.Program.{Program}
use Rattle.calculus.specs.Configuration.{Config}
use Rattle.calculus.specs.Runs.{run_on}
use Rattle.calculus.specs.Printed.{step_limit, showing, run_lines}
use Rattle.calculus.specs.declared.answers.Seen.{Seen}
use Rattle.calculus.specs.declared.answers.RanOn.{RanOn}
use Rattle.calculus.specs.declared.answers.RanOn.TheVariants.{Shown, Done, Full, Stopped, Uncaught}
use Rattle.theory_progress.specs.RunOn.{Ended, showing_to, given, run_on_ends}

-- run-on takes at most its budget, and a sighting at least one step
module _ (p : Program) (C : Config) (budget : ℕ) where
  steps_within : (D : Config) (a : RanOn) → Ended p budget (given a) C a D → given a ≤ budget
  steps_within D (Shown seen t) e = e.0
  steps_within D (Done t) e = e.0
  steps_within D (Full t) e = e.0
  steps_within D (Stopped t) e = omega (arith, e.0)
  steps_within D (Uncaught t) e = e.0

  pub given_within : given (run_on p C budget).answer ≤ budget
  given_within = steps_within (run_on p C budget).config (run_on p C budget).answer (run_on_ends p C budget)

  some_step : (n : ℕ) (seen : Seen) (D : Config) → showing_to p n C seen D → 1 ≤ n
  some_step zero seen D h = absurd h
  some_step (suc n) seen D h = omega arith

  pub shown_steps : (seen : Seen) (n : ℕ) → (run_on p C budget).answer ≡ Shown seen n → (1 ≤ n) × (n ≤ budget)
  shown_steps seen n e =
      let D = (run_on p C budget).config in
      let h : Ended p budget n C (Shown seen n) D = subst (λ a. Ended p budget (given a) C a D) e (run_on_ends p C budget) in
      (some_step n seen D h.1, h.0)

module _ (s : List ℕ) (taken : ℕ) where
  -- what comes after a sighting alone matters
  showing_same : (a : RanOn) (f g : ℕ → List ℕ) → ((seen : Seen) (n : ℕ) → a ≡ Shown seen n → f (taken + n) ≡ g (taken + n)) → showing s taken a f ≡ showing s taken a g
  showing_same (Shown seen n) f g h = ap (λ l. showing s taken (Shown seen n) (λ _. l)) (h seen n refl)
  showing_same (Done n) f g h = refl
  showing_same (Full n) f g h = refl
  showing_same (Stopped n) f g h = refl
  showing_same (Uncaught n) f g h = refl

-- more fuel than steps are left does not matter
pub fuel_enough : (s : List ℕ) (p : Program) (n m taken : ℕ) (C : Config) → step_limit - taken < n → step_limit - taken < m → run_lines n s p taken C ≡ run_lines m s p taken C
unfolding run_lines
fuel_enough s p zero m taken C h l = absurd (omega arith)
fuel_enough s p (suc n) zero taken C h l = absurd (omega arith)
fuel_enough s p (suc n) (suc m) taken C h l =
    let r = run_on p C (step_limit - taken) in
    showing_same s taken r.answer (λ t. run_lines n s p t r.config) (λ t. run_lines m s p t r.config) λ seen k e.
    let b = shown_steps p C (step_limit - taken) seen k e in
    fuel_enough s p n m (taken + k) r.config (omega (arith, b, h)) (omega (arith, b, l))
