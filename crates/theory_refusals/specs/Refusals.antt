-- Demand 1's "Whoever calls .. gets an answer or a numbered refusal": the numbers of the refusals of a text and of a call.
use Rattle.std.specs.Prelude.{ℕ, zero, suc, ◌≤◌, ◌≡◌, refl, ◌≢◌, ◌⊎◌, List, [], Bool, true, false, cond, leb, Ok, Err}
use Rattle.std.proofs.Common.{arith, subst, inl, inr}
use Rattle.std.proofs.Math.Option.{Option, some, none}
use Rattle.std.proofs.Math.ListN.{get_elem?}
use Rattle.notation.specs.Limits.{scratch_words, run_words}
use Rattle.notation.specs.Refusals.{OrRefusal}
use Rattle.notation.specs.Tree.{Declaration}
use Rattle.notation.specs.Reader.{Result, got, refused}
use Rattle.notation.specs.Scripts.{read_text}
use Rattle.calculus.specs.Answers.{started_as, stepped_as, ran_on_as, counted_as}
use Rattle.calculus.specs.Program.{Program}
use Rattle.calculus.specs.Verdict as verdicts
use Rattle.calculus.specs.Verdict.{Verdict, fine, and_then}
use Rattle.calculus.specs.Declarations.{declared}
use Rattle.calculus.specs.Checking.{typed}
use Rattle.calculus.specs.Accepted.{Checked, accepted, faulty, judged, checked_read, checked}
use Rattle.calculus.specs.Configuration.{Process, Config, at}
use Rattle.calculus.specs.Steps.{Outcome, carried, uncaught, not_open, lacking, step}
use Rattle.calculus.specs.Runs.{exec_of, run_on}
use Rattle.calculus.specs.Machine.{Call, call_start, call_step, call_run_on, call_report, call_places, call_exec_name, Answer, started, stepped, ran_on, reported, surveyed, name_given, Reply, text_checked, on_program, on_run, on_line, on_going, on_place, on_step, refusal, respond}
use Rattle.calculus.specs.Demands.{is_refused}
use Rattle.calculus.specs.declared.answers.Seen.{Seen}
use Rattle.calculus.specs.declared.answers.RanOn.{RanOn}
use Rattle.calculus.specs.declared.answers.RanOn.TheVariants as runs
use Rattle.theory_refusals.specs.Verdicts.{Between, Refusing, DeclaredFault, TypingFault, declared_within, typed_within}
use Rattle.notation.proofs.ScriptReadings.{read_numbered}

-- ── a text: 2 to 15, and never 14
abbrev pub TextNumber : ℕ → Type 0
TextNumber n = Between 2 15 n × (n ≢ 14)

abbrev FaultIn : Checked → Type 0
FaultIn k = (n i : ℕ) → k ≡ faulty n i → TextNumber n

fault_in : (m j : ℕ) → TextNumber m → FaultIn (faulty m j)
fault_in m j b n i e = let z : m ≡ n = cc in omega arith

no_fault : (ds : List Declaration) → FaultIn (accepted ds)
no_fault ds n i e = absurd (let z : ◌≡◌ {A = ℕ} 0 1 = cc in omega arith)

judged_numbered : (ds : List Declaration) (v w : Verdict) → Refusing (DeclaredFault ds) v → Refusing (TypingFault ds) w → FaultIn (judged ds (and_then v w))
judged_numbered ds fine fine a b = no_fault ds
judged_numbered ds fine (verdicts.refused m j) a b = let h = b.holds.number in fault_in m j (omega arith)
judged_numbered ds (verdicts.refused m j) w a b = let h = a.holds.number in fault_in m j (omega arith)

-- the refusal of a text is among them
pub checked_numbered : (s : List ℕ) (n i : ℕ) → checked s ≡ faulty n i → TextNumber n
unfolding checked
checked_numbered s = go (read_text s) refl
  where
    go : (r : Result (List Declaration)) → read_text s ≡ r → FaultIn (checked_read r)
    go (got ds c) e = judged_numbered ds (declared ds) (typed ds) (declared_within ds) (typed_within ds)
    go (refused m j) e = let h = read_numbered s m j e in fault_in m j (omega arith)

-- ── a call
abbrev offset_in : {A : Type 0} → OrRefusal A → ℕ
offset_in (Ok x) = 0
offset_in (Err r) = r.at

-- the refusal's number in an answer, and its offset; 0 where there is none
abbrev pub refusal_of : Answer → ℕ
refusal_of (started a) = (started_as a).refusal
refusal_of (stepped a) = (stepped_as a).refusal
refusal_of (ran_on a) = (ran_on_as a).refusal
refusal_of (reported a l) = (counted_as a).refusal
refusal_of (surveyed a l) = (counted_as a).refusal
refusal_of (name_given l n i) = n

abbrev pub offset_of : Answer → ℕ
offset_of (started a) = offset_in a
offset_of (stepped a) = offset_in a
offset_of (ran_on a) = offset_in a
offset_of (reported a l) = offset_in a
offset_of (surveyed a l) = offset_in a
offset_of (name_given l n i) = i

-- a call can "fail on 16 to 22 only where that argument exists"; the plain machine never on 18
abbrev pub ByArguments : Call → ℕ → Type 0
ByArguments (call_start scratch run line) n = (n ≡ 16) ⊎ (n ≡ 17)
ByArguments (call_step scratch run place) n = (n ≡ 16) ⊎ Between 19 22 n
ByArguments (call_run_on scratch run budget) n = n ≡ 16
ByArguments (call_report scratch run) n = n ≡ 16
ByArguments (call_places scratch run) n = n ≡ 16
ByArguments (call_exec_name scratch line) n = n ≡ 17

-- the text's refusal; or 1, or one by the arguments, with offset 0: "(0 for 1 and from 16 on)"
abbrev pub Refuses : Call → ℕ → ℕ → Type 0
Refuses c n i = TextNumber n ⊎ (((n ≡ 1) ⊎ ByArguments c n) × (i ≡ 0))

abbrev pub AnswersOf : Call → Answer → Bool → Type 0
AnswersOf c a true = Refuses c (refusal_of a) (offset_of a)
AnswersOf c a false = (refusal_of a ≡ 0) × (offset_of a ≡ 0)

-- an answer, whose refusal is 0, or a numbered refusal
pub record Answers (c : Call) (a : Answer) : Type 0 where
  pub holds : AnswersOf c a (is_refused a)

some_number : (c : Call) (n i : ℕ) → Refuses c n i → Between 1 22 n × (n ≢ 14)
some_number c n i (inl b) = omega arith
some_number c n i (inr (inl e, z)) = omega arith
some_number (call_start scratch run line) n i (inr (inr (inl e), z)) = omega arith
some_number (call_start scratch run line) n i (inr (inr (inr e), z)) = omega arith
some_number (call_step scratch run place) n i (inr (inr (inl e), z)) = omega arith
some_number (call_step scratch run place) n i (inr (inr (inr e), z)) = omega arith
some_number (call_run_on scratch run budget) n i (inr (inr e, z)) = omega arith
some_number (call_report scratch run) n i (inr (inr e, z)) = omega arith
some_number (call_places scratch run) n i (inr (inr e, z)) = omega arith
some_number (call_exec_name scratch line) n i (inr (inr e, z)) = omega arith

-- ── a law for each part of the refusal list
name_refused : (scratch line n i : ℕ) → Refuses (call_exec_name scratch line) n i → 1 ≤ n → Answers (call_exec_name scratch line) (name_given [] n i)
name_refused scratch line zero i h z = absurd (omega arith)
name_refused scratch line (suc n) i h z = record { holds = h }

refuses : (C : Config) (c : Call) (n i : ℕ) → Refuses c n i → Answers c (refusal C c n i).answer
unfolding started_as stepped_as ran_on_as counted_as
refuses C (call_start scratch run line) n i h = record { holds = h }
refuses C (call_step scratch run place) n i h = record { holds = h }
refuses C (call_run_on scratch run budget) n i h = record { holds = h }
refuses C (call_report scratch run) n i h = record { holds = h }
refuses C (call_places scratch run) n i h = record { holds = h }
refuses C (call_exec_name scratch line) n i h = name_refused scratch line n i h (some_number (call_exec_name scratch line) n i h).0.0

abbrev Replies : Call → Reply → Type 0
Replies c r = Answers c r.answer

module _ (C : Config) (c : Call) where
  by_arguments : (n : ℕ) → ByArguments c n → Replies c (refusal C c n 0)
  by_arguments n h = refuses C c n 0 (inr (inr h, refl))

  by_text : (s : List ℕ) (scratch : ℕ) (k : Program → Reply) → ((p : Program) → Replies c (k p)) → Replies c (on_program (text_checked s scratch) (refusal C c) k)
  unfolding text_checked
  by_text s scratch k f = go (leb scratch_words scratch)
    where
      on : (t : Checked) → FaultIn t → Replies c (on_program t (refusal C c) k)
      on (accepted ds) h = f _
      on (faulty n i) h = refuses C c n i (inl (h n i refl))

      go : (b : Bool) → Replies c (on_program (cond b (checked s) (faulty 1 0)) (refusal C c) k)
      go true = on (checked s) (checked_numbered s)
      go false = refuses C c 1 0 (inr (inl refl, refl))

  by_run : (run : ℕ) (r : Reply) → ByArguments c 16 → Replies c r → Replies c (on_run run (refusal C c) r)
  by_run run r h f = go (leb run_words run)
    where
      go : (b : Bool) → Replies c (cond b r (refusal C c 16 0))
      go true = f
      go false = by_arguments 16 h

  by_line : {X : Type 0} (o : Option X) (k : X → Reply) → ByArguments c 17 → ((x : X) → Replies c (k x)) → Replies c (on_line o (refusal C c) k)
  by_line none k h f = by_arguments 17 h
  by_line (some x) k h f = f x

  by_halt : (b : Bool) (r : Reply) → ByArguments c 22 → Replies c r → Replies c (on_going b (refusal C c) r)
  by_halt true r h f = by_arguments 22 h
  by_halt false r h f = f

  by_place : (o : Option Process) (r : Reply) → ByArguments c 19 → Replies c r → Replies c (on_place o (refusal C c) r)
  by_place none r h f = by_arguments 19 h
  by_place (some q) r h f = f

  by_step : (o : Outcome) (k : Seen → Config → Reply) (r : Reply) → ByArguments c 20 → ByArguments c 21 → ((seen : Seen) (D : Config) → Replies c (k seen D)) → Replies c r → Replies c (on_step o (refusal C c) k r)
  by_step (carried seen D) k r g h f u = f seen D
  by_step uncaught k r g h f u = u
  by_step not_open k r g h f u = by_arguments 20 g
  by_step lacking k r g h f u = by_arguments 21 h

-- a run-on's own answer is no refusal
ran_answers : (scratch run budget : ℕ) (a : RanOn) → Answers (call_run_on scratch run budget) (ran_on (Ok a))
unfolding ran_on_as
ran_answers scratch run budget (runs.Uncaught t) = record { holds = (refl, refl) }
ran_answers scratch run budget (runs.Shown s t) = record { holds = (refl, refl) }
ran_answers scratch run budget (runs.Done t) = record { holds = (refl, refl) }
ran_answers scratch run budget (runs.Full t) = record { holds = (refl, refl) }
ran_answers scratch run budget (runs.Stopped t) = record { holds = (refl, refl) }

-- every call gets an answer or a numbered refusal
pub respond_answers : (s : List ℕ) (C : Config) (c : Call) → Answers c (respond s C c).answer
unfolding respond started_as stepped_as counted_as
respond_answers s C (call_start scratch run line) =
    let c = call_start scratch run line in
    by_text C c s scratch _ λ p.
    by_run C c run _ (inl refl) (by_line C c (exec_of p line) _ (inr refl) λ g. record { holds = (refl, refl) })
respond_answers s C (call_step scratch run place) =
    let c = call_step scratch run place in
    by_text C c s scratch _ λ p.
    by_run C c run _ (inl refl)
    (by_halt C c C.halted _ (inr (omega arith))
    (by_place C c (at C place) _ (inr (omega arith))
    (by_step C c (step p C place) _ _ (inr (omega arith)) (inr (omega arith)) (λ seen D. record { holds = (refl, refl) }) (record { holds = (refl, refl) }))))
respond_answers s C (call_run_on scratch run budget) =
    let c = call_run_on scratch run budget in
    by_text C c s scratch _ λ p. by_run C c run _ refl (ran_answers scratch run budget (run_on p C budget).answer)
respond_answers s C (call_report scratch run) =
    let c = call_report scratch run in
    by_text C c s scratch _ λ p. by_run C c run _ refl (record { holds = (refl, refl) })
respond_answers s C (call_places scratch run) =
    let c = call_places scratch run in
    by_text C c s scratch _ λ p. by_run C c run _ refl (record { holds = (refl, refl) })
respond_answers s C (call_exec_name scratch line) =
    let c = call_exec_name scratch line in
    by_text C c s scratch _ λ p. by_line C c (get_elem? p.execs line) _ refl λ n. record { holds = (refl, refl) }

-- ── what this says of a refusal, and of an answer that is none
module _ (s : List ℕ) (C : Config) (c : Call) where
  abbrev a : Answer
  a = (respond s C c).answer

  pub refuses_as : is_refused a ≡ true → Refuses c (refusal_of a) (offset_of a)
  refuses_as e = subst (AnswersOf c a) e (respond_answers s C c).holds

  -- the refusal's number is within 1 to 22
  pub respond_numbered : is_refused a ≡ true → (1 ≤ refusal_of a) × (refusal_of a ≤ 22)
  respond_numbered e = (some_number c (refusal_of a) (offset_of a) (refuses_as e)).0

  -- 14 is "Never given"
  pub never_14 : is_refused a ≡ true → refusal_of a ≢ 14
  never_14 e = (some_number c (refusal_of a) (offset_of a) (refuses_as e)).1

  -- and 0 where nothing is refused
  pub respond_unrefused : is_refused a ≡ false → (refusal_of a ≡ 0) × (offset_of a ≡ 0)
  respond_unrefused e = subst (AnswersOf c a) e (respond_answers s C c).holds
