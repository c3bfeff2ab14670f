-- Where a call's refusal is: by 2 to 15 where the text is at fault, within it; "0 for 1 and from 16 on".
use Rattle.std.specs.Prelude.{ℕ, ◌≤◌, ◌≡◌, refl, ◌⊎◌, List, length, Ok}
use Rattle.std.proofs.Common.{arith, sym, subst, inl, inr}
use Rattle.notation.specs.Limits.{text_limit}
use Rattle.calculus.specs.Accepted.{faulty, checked}
use Rattle.calculus.specs.Answers.{started_as, stepped_as, ran_on_as, counted_as}
use Rattle.calculus.specs.Machine.{Answer, ran_on}
use Rattle.calculus.specs.declared.answers.RanOn.{RanOn}
use Rattle.calculus.specs.declared.answers.RanOn.TheVariants as runs
use Rattle.theory_refusals.specs.Refusals.{refusal_of, offset_of, checked_numbered}
use Rattle.theory_refusals.specs.TextOffsets.{RefusedAt, checked_at}
use Rattle.interpreter.specs.Entries.{Request, to_start, to_step, to_run_on, to_report, to_places, to_name, EntryCall, Answers}
use Rattle.interpreter.specs.Past.{refusal_to}
use Rattle.interpreter.specs.Cases.{OfGiven, Cause, refusal_number, refusal_offset, every_answer}

-- the number n and the offset i of an answer
pub record Placed (s : List ℕ) (n i : ℕ) : Type 0 where
  pub text : 2 ≤ n → n ≤ 15 → RefusedAt s n i
  pub zero : (n ≤ 1) ⊎ (16 ≤ n) → i ≡ 0
  pub within : i ≤ length s
  pub limit : i ≤ text_limit

abbrev PlacedAnswer : List ℕ → Answer → Type 0
PlacedAnswer s a = Placed s (refusal_of a) (offset_of a)

unplaced : (s : List ℕ) (n i : ℕ) → (n ≤ 1) ⊎ (16 ≤ n) → i ≡ 0 → Placed s n i
unplaced s n i (inl h) e = record { text = λ a b. absurd (omega (arith, a, h)); zero = λ _. e; within = omega (arith, e); limit = omega (arith, e) }
unplaced s n i (inr h) e = record { text = λ a b. absurd (omega (arith, b, h)); zero = λ _. e; within = omega (arith, e); limit = omega (arith, e) }

pub placed_by : (s : List ℕ) (n i : ℕ) → Cause s n i → Placed s n i
placed_by s n i c = go c.by
  where
    go : (((n ≡ 1) ⊎ (16 ≤ n)) × (i ≡ 0)) ⊎ (checked s ≡ faulty n i) → Placed s n i
    go (inl (inl e, o)) = unplaced s n i (inl (omega (arith, e))) o
    go (inl (inr h, o)) = unplaced s n i (inr h) o
    go (inr e) =
        let b = (checked_numbered s n i e).0 in
        let t = checked_at s n i e in
        record { text = λ _ _. t; zero = λ z. absurd (outside z b); within = t.within; limit = t.limit }
      where
        outside : (n ≤ 1) ⊎ (16 ≤ n) → (2 ≤ n) × (n ≤ 15) → ⊥
        outside (inl h) b = omega (arith, h, b)
        outside (inr h) b = omega (arith, h, b)

nowhere : (s : List ℕ) → Placed s 0 0
nowhere s = unplaced s 0 0 (inl (omega arith)) refl

given_placed : (s : List ℕ) (q : Request) → OfGiven (PlacedAnswer s) q
unfolding started_as stepped_as ran_on_as counted_as
given_placed s (to_start line) = nowhere s
given_placed s (to_step place) = (λ seen. nowhere s, nowhere s)
given_placed s (to_run_on budget) = ran
  where
    ran : (a : RanOn) → PlacedAnswer s (ran_on (Ok a))
    ran (runs.Shown seen t) = nowhere s
    ran (runs.Done t) = nowhere s
    ran (runs.Full t) = nowhere s
    ran (runs.Stopped t) = nowhere s
    ran (runs.Uncaught t) = nowhere s
given_placed s to_report = λ l. nowhere s
given_placed s to_places = λ l. nowhere s
given_placed s (to_name line) = λ part. nowhere s

pub refused_at_lem : (s : List ℕ) (m : EntryCall) → Answers s m → Placed s (refusal_of m.answer) (offset_of m.answer)
refused_at_lem s m A =
    every_answer s m A (PlacedAnswer s)
    (λ k i c. subst (λ n. Placed s n (offset_of (refusal_to m.request k i))) (sym (refusal_number m.request k i)) (subst (Placed s k) (sym (refusal_offset m.request k i)) (placed_by s k i c)))
    (given_placed s m.request)
