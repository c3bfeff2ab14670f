-- The cases of an entry's answer: what holds of every refusal, and of every answer that is none, holds of its answer.
use Rattle.std.specs.Prelude.{ℕ, ◌≤◌, ◌≡◌, refl, ◌⊎◌, List, Bool, true, false, cond, leb, length, Ok}
use Rattle.std.proofs.Common.{arith, sym, ◌∙◌, ap, subst, inl, inr}
use Rattle.std.proofs.Math.Option.{Option, some, none}
use Rattle.std.proofs.Math.ListN.{get_elem?}
use Rattle.notation.specs.Limits.{scratch_words, run_words}
use Rattle.calculus.specs.Accepted.{Checked, accepted, faulty, checked}
use Rattle.calculus.specs.Answers.{started_as, stepped_as, ran_on_as, counted_as}
use Rattle.calculus.specs.Configuration.{Process, Config, at}
use Rattle.calculus.specs.Demands.{is_refused}
use Rattle.calculus.specs.Machine.{Answer, started, stepped, ran_on, reported, surveyed, name_given, Reply, on_program, on_run, on_line, on_going, on_place, on_step, text_checked, idle}
use Rattle.calculus.specs.Program.{Program}
use Rattle.calculus.specs.Runs.{exec_of, run_on, report, places}
use Rattle.calculus.specs.Steps.{Outcome, carried, uncaught, not_open, lacking, step}
use Rattle.calculus.specs.declared.answers.RanOn.{RanOn}
use Rattle.calculus.specs.declared.answers.Seen.{Seen}
use Rattle.calculus.specs.declared.answers.Stepped.TheVariants as steps
use Rattle.theory_refusals.specs.Refusals.{refusal_of, offset_of, checked_numbered}
use Rattle.interpreter.specs.Entries.{Request, to_start, to_step, to_run_on, to_report, to_places, to_name, EntryCall, RunUse, anew, read, unlent, use_of, config_of, HoldsRun, Reached, Answers}
use Rattle.interpreter.specs.Past.{refusal_to, refuse, on_lent, past_run, refusal_is, reply_by}

-- X holds of the answers to a request that are no refusals; a list comes with its count
abbrev pub OfGiven : (Answer → Type 0) → Request → Type 0
OfGiven X (to_start line) = X (started (Ok tt))
OfGiven X (to_step place) = ((seen : Seen) → X (stepped (Ok (steps.Carried seen)))) × X (stepped (Ok steps.Uncaught))
OfGiven X (to_run_on budget) = (a : RanOn) → X (ran_on (Ok a))
OfGiven X to_report = (l : List ℕ) → X (reported (Ok (length l)) l)
OfGiven X to_places = (l : List ℕ) → X (surveyed (Ok (length l)) l)
OfGiven X (to_name line) = (part : List ℕ) → X (name_given part 0 0)

-- so it does, if it holds of whatever is no refusal
pub of_unrefused : (X : Answer → Type 0) → ((a : Answer) → is_refused a ≡ false → X a) → (q : Request) → OfGiven X q
of_unrefused X f (to_start line) = f _ refl
of_unrefused X f (to_step place) = (λ seen. f _ refl, f _ refl)
of_unrefused X f (to_run_on budget) = λ a. f _ refl
of_unrefused X f to_report = λ l. f _ refl
of_unrefused X f to_places = λ l. f _ refl
of_unrefused X f (to_name line) = λ part. f _ refl

-- a refusal's number and offset
pub refusal_number : (q : Request) (k i : ℕ) → refusal_of (refusal_to q k i) ≡ k
unfolding started_as stepped_as ran_on_as counted_as
refusal_number (to_start line) k i = refl
refusal_number (to_step place) k i = refl
refusal_number (to_run_on budget) k i = refl
refusal_number to_report k i = refl
refusal_number to_places k i = refl
refusal_number (to_name line) k i = refl

pub refusal_offset : (q : Request) (k i : ℕ) → offset_of (refusal_to q k i) ≡ i
refusal_offset (to_start line) k i = refl
refusal_offset (to_step place) k i = refl
refusal_offset (to_run_on budget) k i = refl
refusal_offset to_report k i = refl
refusal_offset to_places k i = refl
refusal_offset (to_name line) k i = refl

record Answered (X : Answer → Type 0) (y : Reply) : Type 0 where
  by : X y.answer

module _ (X : Answer → Type 0) (q : Request) (C : Config) where
  -- ── past the text's refusals
  module _ (r : (k : ℕ) → 16 ≤ k → X (refusal_to q k 0)) where
    refuses_by : (k : ℕ) → 16 ≤ k → Answered X (refuse q C k 0)
    refuses_by k h = record { by = r k h }

    on_run_lem : (m : ℕ) {y : Reply} → Answered X y → Answered X (on_run m (refuse q C) y)
    on_run_lem m {y} h = go (leb run_words m)
      where
        go : (b : Bool) → Answered X (cond b y (refuse q C 16 0))
        go true = h
        go false = refuses_by 16 (omega arith)

    on_lent_lem : (u : RunUse) (m : ℕ) {y : Reply} → Answered X y → Answered X (on_lent u m (refuse q C) y)
    on_lent_lem anew m h = on_run_lem m h
    on_lent_lem read m h = on_run_lem m h
    on_lent_lem unlent m h = h

    on_line_lem : {Y : Type 0} (o : Option Y) {k : Y → Reply} → ((x : Y) → Answered X (k x)) → Answered X (on_line o (refuse q C) k)
    on_line_lem none f = refuses_by 17 (omega arith)
    on_line_lem (some x) f = f x

    on_going_lem : (b : Bool) {y : Reply} → Answered X y → Answered X (on_going b (refuse q C) y)
    on_going_lem true h = refuses_by 22 (omega arith)
    on_going_lem false h = h

    on_place_lem : (o : Option Process) {y : Reply} → Answered X y → Answered X (on_place o (refuse q C) y)
    on_place_lem none h = refuses_by 19 (omega arith)
    on_place_lem (some x) h = h

    on_step_lem : (o : Outcome) {k : Seen → Config → Reply} {y : Reply} → ((seen : Seen) (D : Config) → Answered X (k seen D)) → Answered X y → Answered X (on_step o (refuse q C) k y)
    on_step_lem (carried seen D) f h = f seen D
    on_step_lem uncaught f h = h
    on_step_lem not_open f h = refuses_by 20 (omega arith)
    on_step_lem lacking f h = refuses_by 21 (omega arith)

past_run_lem : (X : Answer → Type 0) (p : Program) (q : Request) (C : Config) → ((k : ℕ) → 16 ≤ k → X (refusal_to q k 0)) → OfGiven X q → Answered X (past_run p q C)
past_run_lem X p (to_start line) C r g = on_line_lem X (to_start line) C r (exec_of p line) (λ _. record { by = g })
past_run_lem X p (to_step place) C r g =
    let q = to_step place in
    on_going_lem X q C r C.halted (on_place_lem X q C r (at C place) (on_step_lem X q C r (step p C place) (λ seen D. record { by = g.0 seen }) (record { by = g.1 })))
past_run_lem X p (to_run_on budget) C r g = record { by = g (run_on p C budget).answer }
past_run_lem X p to_report C r g = record { by = g (report C) }
past_run_lem X p to_places C r g = record { by = g (places p C) }
past_run_lem X p (to_name line) C r g = on_line_lem X (to_name line) C r (get_elem? p.execs line) (λ n. record { by = g n.name })

pub past_text_by : (X : Answer → Type 0) (p : Program) (q : Request) (C : Config) (m : ℕ) → ((k : ℕ) → 16 ≤ k → X (refusal_to q k 0)) → OfGiven X q
    → X (on_lent (use_of q) m (refuse q C) (past_run p q C)).answer
past_text_by X p q C m r g = (on_lent_lem X q C r (use_of q) m (past_run_lem X p q C r g)).by

-- ── of every call
-- why it is refused by k at i: 1, or from 16 on, with offset 0; or the text's own refusal
pub record Cause (s : List ℕ) (k i : ℕ) : Type 0 where
  pub number : 1 ≤ k
  pub by : (((k ≡ 1) ⊎ (16 ≤ k)) × (i ≡ 0)) ⊎ (checked s ≡ faulty k i)

argument_cause : (s : List ℕ) (k : ℕ) → 16 ≤ k → Cause s k 0
argument_cause s k h = record { number = omega (arith, h); by = inl (inr h, refl) }

text_cause : (s : List ℕ) (scratch k i : ℕ) → text_checked s scratch ≡ faulty k i → Cause s k i
unfolding text_checked
text_cause s scratch k i = go (leb scratch_words scratch)
  where
    go : (b : Bool) → cond b (checked s) (faulty 1 0) ≡ faulty k i → Cause s k i
    go true e = let h = (checked_numbered s k i e).0 in record { number = omega (arith, h); by = inr e }
    go false e = let z : 1 ≡ k = cc in let o : 0 ≡ i = cc in record { number = omega (arith, z); by = inl (inl (sym z), sym o) }

pub text_numbered : (s : List ℕ) (scratch k i : ℕ) → text_checked s scratch ≡ faulty k i → 1 ≤ k
text_numbered s scratch k i e = (text_cause s scratch k i e).number

pub every_answer : (s : List ℕ) (m : EntryCall) → Answers s m → (X : Answer → Type 0) → ((k i : ℕ) → Cause s k i → X (refusal_to m.request k i)) → OfGiven X m.request → X m.answer
every_answer s m A X r g = go A.either
  where
    q : Request
    q = m.request

    C : Config
    C = config_of s m.lent.run

    run : ℕ
    run = length m.lent.run

    by_verdict : (t : Checked) → ((k i : ℕ) → t ≡ faulty k i → Cause s k i) → X (on_program t (refuse q C) (λ p. on_lent (use_of q) run (refuse q C) (past_run p q C))).answer
    by_verdict (accepted ds) n = past_text_by X _ q C run (λ k h. r k 0 (argument_cause s k h)) g
    by_verdict (faulty k i) n = r k i (n k i refl)

    go : (Reached s m × (¬ HoldsRun s m.lent.run)) ⊎ (Reached s m → HoldsRun s m.lent.run) → X m.answer
    go (inl (h, d)) =
        subst X (sym ((A.stranger h d).0.is ∙ ap (λ (y : Reply). y.answer) (refusal_is idle q (length m.lent.scratch) run 18 0))) (r 18 0 (argument_cause s 18 (omega arith)))
    go (inr k) =
        subst X (sym ((A.known k).0.is ∙ ap (λ (y : Reply). y.answer) (reply_by s q C (length m.lent.scratch) run)))
        (by_verdict (text_checked s (length m.lent.scratch)) (text_cause s (length m.lent.scratch)))
