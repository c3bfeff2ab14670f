-- Answers are told apart by the scope's numbers and values: two calls that ask the same, and are told the same, have one answer.
use Rattle.std.specs.Prelude.{ℕ, zero, suc, ◌≤◌, ◌≡◌, refl, List, [], Bool, true, false, cond, eqb, get_or, drop, Ok}
use Rattle.std.proofs.Common.{arith, sym, ◌∙◌}
use Rattle.notation.specs.Refusals.{OrRefusal, refuses}
use Rattle.calculus.specs.Answers.{Told, seen_values, started_as, stepped_as, ran_on_as, counted_as}
use Rattle.calculus.specs.Machine.{Answer, started, stepped, ran_on, reported, surveyed, name_given}
use Rattle.calculus.specs.declared.answers.Seen.{Seen}
use Rattle.calculus.specs.declared.answers.Seen.TheVariants.{Nothing, Label, Close, Passed, Cancelled}
use Rattle.calculus.specs.declared.answers.Stepped.{Stepped}
use Rattle.calculus.specs.declared.answers.Stepped.TheVariants as steps
use Rattle.calculus.specs.declared.answers.RanOn.{RanOn}
use Rattle.calculus.specs.declared.answers.RanOn.TheVariants as runs
use Rattle.interpreter.specs.Entries.{Request, to_start, to_step, to_run_on, to_report, to_places, to_name, EntryCall, answer_as, Answers}
use Rattle.interpreter.specs.Past.{refusal_to}
use Rattle.interpreter.specs.Cases.{OfGiven, every_answer}

-- ── the answer that a number and values tell, by what was asked
abbrev as_bool : ℕ → Bool
as_bool zero = false
as_bool (suc n) = true

-- the value at a position
abbrev value : ℕ → List ℕ → ℕ
value k l = get_or l k 0

abbrev seen_by : ℕ → List ℕ → Seen
seen_by zero l = Nothing
seen_by (suc zero) l = Label (value 1 l) (value 2 l)
seen_by (suc (suc zero)) l = Close (value 1 l)
seen_by (suc (suc (suc zero))) l = Passed (value 1 l) (value 2 l) (as_bool (value 3 l))
seen_by (suc (suc (suc (suc k)))) l = Cancelled (value 1 l)

abbrev seen_from : List ℕ → Seen
seen_from l = seen_by (value 0 l) l

-- what was carried out, or the refusal of a number that is not 0
abbrev or_refused : {A : Type 0} → A → ℕ → List ℕ → OrRefusal A
or_refused a zero l = Ok a
or_refused a (suc n) l = refuses (suc n) (value 0 l)

abbrev step_by : List ℕ → Stepped
step_by l = cond (eqb (value 0 l) 5) steps.Uncaught (steps.Carried (seen_from l))

abbrev end_by : ℕ → List ℕ → RanOn
end_by zero l = runs.Done (value 1 l)
end_by (suc zero) l = runs.Shown (seen_from (drop 2 l)) (value 1 l)
end_by (suc (suc zero)) l = runs.Done (value 1 l)
end_by (suc (suc (suc zero))) l = runs.Full (value 1 l)
end_by (suc (suc (suc (suc zero)))) l = runs.Stopped (value 1 l)
end_by (suc (suc (suc (suc (suc k))))) l = runs.Uncaught (value 1 l)

abbrev name_from : ℕ → List ℕ → Answer
name_from zero l = name_given l 0 0
name_from (suc n) l = name_given [] (suc n) (value 0 l)

abbrev pub answer_from : Request → Told → Answer
answer_from (to_start line) t = started (or_refused tt t.refusal t.values)
answer_from (to_step place) t = stepped (or_refused (step_by t.values) t.refusal t.values)
answer_from (to_run_on budget) t = ran_on (or_refused (end_by (value 0 t.values) t.values) t.refusal t.values)
answer_from to_report t = reported (or_refused (value 0 t.values) t.refusal t.values) (drop 1 t.values)
answer_from to_places t = surveyed (or_refused (value 0 t.values) t.refusal t.values) (drop 1 t.values)
answer_from (to_name line) t = name_from t.refusal t.values

-- ── and it is the answer that was told
abbrev ToldBack : Request → Answer → Type 0
ToldBack q a = answer_from q (answer_as a) ≡ a

refusal_back : (q : Request) (k i : ℕ) → 1 ≤ k → ToldBack q (refusal_to q k i)
unfolding started_as stepped_as ran_on_as counted_as
refusal_back q zero i h = absurd (omega (arith, h))
refusal_back (to_start line) (suc n) i h = refl
refusal_back (to_step place) (suc n) i h = refl
refusal_back (to_run_on budget) (suc n) i h = refl
refusal_back to_report (suc n) i h = refl
refusal_back to_places (suc n) i h = refl
refusal_back (to_name line) (suc n) i h = refl

step_back : (place : ℕ) (seen : Seen) → ToldBack (to_step place) (stepped (Ok (steps.Carried seen)))
unfolding stepped_as seen_values
step_back place Nothing = refl
step_back place (Label n at) = refl
step_back place (Close n) = refl
step_back place (Passed n m true) = refl
step_back place (Passed n m false) = refl
step_back place (Cancelled n) = refl

shown_back : (budget t : ℕ) (seen : Seen) → ToldBack (to_run_on budget) (ran_on (Ok (runs.Shown seen t)))
unfolding ran_on_as seen_values
shown_back budget t Nothing = refl
shown_back budget t (Label n at) = refl
shown_back budget t (Close n) = refl
shown_back budget t (Passed n m true) = refl
shown_back budget t (Passed n m false) = refl
shown_back budget t (Cancelled n) = refl

ran_back : (budget : ℕ) (a : RanOn) → ToldBack (to_run_on budget) (ran_on (Ok a))
unfolding ran_on_as
ran_back budget (runs.Shown seen t) = shown_back budget t seen
ran_back budget (runs.Done t) = refl
ran_back budget (runs.Full t) = refl
ran_back budget (runs.Stopped t) = refl
ran_back budget (runs.Uncaught t) = refl

given_back : (q : Request) → OfGiven (ToldBack q) q
unfolding started_as stepped_as counted_as
given_back (to_start line) = refl
given_back (to_step place) = (step_back place, refl)
given_back (to_run_on budget) = ran_back budget
given_back to_report = λ l. refl
given_back to_places = λ l. refl
given_back (to_name line) = λ part. refl

pub told_back : (s : List ℕ) (m : EntryCall) → Answers s m → answer_from m.request (answer_as m.answer) ≡ m.answer
told_back s m A = every_answer s m A (ToldBack m.request) (λ k i c. refusal_back m.request k i c.number) (given_back m.request)

-- "a definition gives a number and values for each of the enum's cases": no two cases, and no two answers of a case, are told alike
pub answers_apart : (s s' : List ℕ) (m m' : EntryCall) → Answers s m → Answers s' m' → m.request ≡ m'.request → answer_as m.answer ≡ answer_as m'.answer → m.answer ≡ m'.answer
answers_apart s s' m m' A A' q e = sym (told_back s m A) ∙ (λ j. answer_from (q j) (e j)) ∙ told_back s' m' A'
