-- The replies to a call, by the refusal list: which calls are refused, and that a refusal changes nothing.
use Prim.Native.Nat.{ℕ, ◌<◌, ◌≤◌}
use Rattle.std.proofs.Common.{arith, sym, ◌∙◌, inl, inr, true≢false, le-leb}
use Rattle.std.specs.Prelude.{◌≡◌, ◌↔◌, List, Bool, cond, length, leb, Ok}
use Rattle.std.proofs.Math.Path.{refl, ap}
use Rattle.std.proofs.Math.Option.{Option, some, none, none-ne-some}
use Rattle.std.proofs.Math.Bool.{true, false}
use Rattle.std.proofs.lemmas.Bool.{false≢true, lt-leb}
use Rattle.std.proofs.Math.ListN.{get_elem?}
use Rattle.notation.specs.Limits.{scratch_words, run_words}
use Rattle.notation.specs.Refusals as answers
use Rattle.notation.specs.Tree.{Located, Declaration}
use Rattle.calculus.specs.Program.{Signature, Program, program_of}
use Rattle.calculus.specs.Accepted.{accepted, faulty, checked}
use Rattle.calculus.specs.Configuration.{Process, Config, halt, at}
use Rattle.calculus.specs.Steps.{Outcome, carried, uncaught, not_open, lacking, step}
use Rattle.calculus.specs.Runs.{Ran, start_config, line_signature, exec_of, run_on, report, places}
use Rattle.calculus.specs.Reduces.{Lacks, Applies}
use Rattle.calculus.specs.Machine.{Call, call_start, call_step, call_run_on, call_report, call_places, call_exec_name, started, stepped, ran_on, reported, surveyed, name_given, Reply, reply, text_checked, on_program, on_run, on_line, on_going, on_place, on_step, refusal, respond}
use Rattle.calculus.specs.Demands.{is_refused, lengths, RefusedWhere, AnsweredHalted}
use Rattle.calculus.specs.declared.answers.Seen.{Seen}
use Rattle.calculus.specs.declared.answers.Stepped.TheVariants as Steps
use Rattle.theory_derivations.specs.Booleans.{leb_iff}
use Rattle.theory_ends.specs.Lists.{found_in, none_past, found_below}
use Rattle.theory_reductions.specs.CarriedOut.{carried_out_lem, halts_out, lacks_out}
use Rattle.theory_reductions.specs.StepIff.{applies_place, reduces_or_lacks, halts_or_lacks}
use Rattle.theory_progress.specs.RunOn.{halted_runs}
use Rattle.theory_preservation.specs.Accepted.{exec_defined}

-- a test that passes where the claim holds, and one that fails where it does not
holds_iff : {b : Bool} {A : Type 0} → b ≡ true → A → (b ≡ true) ↔ A
holds_iff e a = (λ _. a, λ _. e)

fails_iff : {b : Bool} {A : Type 0} → b ≡ false → ¬ A → (b ≡ true) ↔ A
fails_iff e n = (λ t. absurd (true≢false (sym t ∙ e)), λ a. absurd (n a))

not_past : {A : Type 0} (l : List A) (i : ℕ) {x : A} → get_elem? l i ≡ some x → ¬ (length l ≤ i)
not_past l i e h = let b = found_below l i e in omega arith

-- ── the replies to a call, by the refusal list
pub data Replied (p : Program) (C : Config) : Call → Reply → Type 0 where
  refuses : {c : Call} (n i : ℕ) → Replied p C c (refusal C c n i)
  begins : {scratch run line : ℕ} (g : Signature) → exec_of p line ≡ some g
      → Replied p C (call_start scratch run line) (reply (started (Ok tt)) (start_config g))
  carries_out : {scratch run place : ℕ} (seen : Seen) (D : Config) → C.halted ≡ false → step p C place ≡ carried seen D
      → Replied p C (call_step scratch run place) (reply (stepped (Ok (Steps.Carried seen))) D)
  halts_run : {scratch run place : ℕ} → C.halted ≡ false → step p C place ≡ uncaught → Replied p C (call_step scratch run place) (reply (stepped (Ok Steps.Uncaught)) (halt C))
  runs : {scratch run budget : ℕ} → Replied p C (call_run_on scratch run budget) (reply (ran_on (Ok (run_on p C budget).answer)) (run_on p C budget).config)
  reports : {scratch run : ℕ} → Replied p C (call_report scratch run) (reply (reported (Ok (length (report C))) (report C)) C)
  surveys_places : {scratch run : ℕ} → Replied p C (call_places scratch run) (reply (surveyed (Ok (length (places p C))) (places p C)) C)
  names : {scratch line : ℕ} (n : Located) → Replied p C (call_exec_name scratch line) (reply (name_given n.name 0 0) C)

module _ {p : Program} {C : Config} {c : Call} where
  on_run_lem : (run : ℕ) {r : Reply} → Replied p C c r → Replied p C c (on_run run (refusal C c) r)
  on_run_lem run {r} h = go (leb run_words run)
    where
      go : (b : Bool) → Replied p C c (cond b r (refusal C c 16 0))
      go true = h
      go false = refuses 16 0

  on_line_lem : {X : Type 0} (o : Option X) {k : X → Reply} → ((x : X) → o ≡ some x → Replied p C c (k x)) → Replied p C c (on_line o (refusal C c) k)
  on_line_lem none f = refuses 17 0
  on_line_lem (some x) f = f x refl

  on_going_lem : (b : Bool) {r : Reply} → (b ≡ false → Replied p C c r) → Replied p C c (on_going b (refusal C c) r)
  on_going_lem true f = refuses 22 0
  on_going_lem false f = f refl

  on_place_lem : (o : Option Process) {r : Reply} → Replied p C c r → Replied p C c (on_place o (refusal C c) r)
  on_place_lem none h = refuses 19 0
  on_place_lem (some q) h = h

  on_step_lem : (o : Outcome) {k : Seen → Config → Reply} {r : Reply} → ((seen : Seen) (D : Config) → o ≡ carried seen D → Replied p C c (k seen D)) → (o ≡ uncaught → Replied p C c r)
      → Replied p C c (on_step o (refusal C c) k r)
  on_step_lem (carried s D) f g = f s D refl
  on_step_lem uncaught f g = g refl
  on_step_lem not_open f g = refuses 20 0
  on_step_lem lacking f g = refuses 21 0

-- a refusal "changes nothing"
pub refusal_config : (C : Config) (c : Call) (n i : ℕ) → (refusal C c n i).config ≡ C
refusal_config C (call_start scratch run line) n i = refl
refusal_config C (call_step scratch run place) n i = refl
refusal_config C (call_run_on scratch run budget) n i = refl
refusal_config C (call_report scratch run) n i = refl
refusal_config C (call_places scratch run) n i = refl
refusal_config C (call_exec_name scratch line) n i = refl

pub run_never_refused : (p : Program) (C : Config) (budget : ℕ) → is_refused (ran_on (Ok (run_on p C budget).answer)) ≡ false
run_never_refused p C budget = refl

pub unchanged_by : {p : Program} {C : Config} {c : Call} {r : Reply} → Replied p C c r → is_refused r.answer ≡ true → r.config ≡ C
unchanged_by {C = C} (refuses {c} n i) e = refusal_config C c n i
unchanged_by (begins g h) e = absurd (false≢true e)
unchanged_by (carries_out seen D g h) e = absurd (false≢true e)
unchanged_by (halts_run g h) e = absurd (false≢true e)
unchanged_by runs e = absurd (false≢true e)
unchanged_by reports e = refl
unchanged_by surveys_places e = refl
unchanged_by (names n) e = refl

-- ── how many words of scratch are lent: with too few refusal 1, otherwise the text's own verdict, whatever their number
pub text_checked_short : (text : List ℕ) (scratch : ℕ) → scratch < scratch_words → text_checked text scratch ≡ faulty 1 0
unfolding text_checked
text_checked_short text scratch h = rw (lt-leb scratch_words scratch h)

pub text_checked_enough : (text : List ℕ) (scratch : ℕ) → scratch_words ≤ scratch → text_checked text scratch ≡ checked text
unfolding text_checked
text_checked_enough text scratch h = rw (le-leb scratch_words scratch h)

module _ (text : List ℕ) (ds : List Declaration) (ok : checked text ≡ accepted ds) where
  abbrev pub P : Program
  P = program_of ds

  on_text : {C : Config} (c : Call) (scratch : ℕ) (k : Program → Reply) → Replied P C c (k P)
      → Replied P C c (on_program (text_checked text scratch) (refusal C c) k)
  unfolding text_checked
  on_text {C} c scratch k h = go (leb scratch_words scratch)
    where
      go : (b : Bool) → Replied P C c (on_program (cond b (checked text) (faulty 1 0)) (refusal C c) k)
      go true = rw ok h
      go false = refuses 1 0

  pub replied : (C : Config) (c : Call) → Replied P C c (respond text C c)
  unfolding respond
  replied C (call_start scratch run line) = on_text _ scratch _ (on_run_lem run (on_line_lem (exec_of P line) (λ g e. begins g e)))
  replied C (call_step scratch run place) =
      on_text _ scratch _ (on_run_lem run (on_going_lem C.halted λ g. on_place_lem (at C place) (on_step_lem (step P C place) (λ seen D e. carries_out seen D g e) (λ e. halts_run g e))))
  replied C (call_run_on scratch run budget) = on_text _ scratch _ (on_run_lem run runs)
  replied C (call_report scratch run) = on_text _ scratch _ (on_run_lem run reports)
  replied C (call_places scratch run) = on_text _ scratch _ (on_run_lem run surveys_places)
  replied C (call_exec_name scratch line) = on_text _ scratch _ (on_line_lem (get_elem? P.execs line) (λ n e. names n))

  -- ── which calls are refused, with slices of enough words
  pub enough_text : (scratch : ℕ) → scratch_words ≤ scratch → text_checked text scratch ≡ accepted ds
  enough_text scratch h = text_checked_enough text scratch h ∙ ok

  pub refused_where : (C : Config) (c : Call) → lengths c → RefusedWhere P C c (respond text C c).answer
  unfolding respond exec_of
  refused_where C (call_start scratch run line) h =
      rw (enough_text scratch h.scratch_enough, (leb_iff run_words run).1 h.run_enough) (go (get_elem? P.execs line) refl)
    where
      go : (o : Option Located) → get_elem? P.execs line ≡ o
          → (is_refused (on_line (line_signature P o) (refusal C (call_start scratch run line)) (λ g. reply (started (Ok tt)) (start_config g))).answer ≡ true) ↔ (length P.execs ≤ line)
      go none e = holds_iff refl (none_past P.execs line e)
      go (some n) e = rw (exec_defined text ds ok n (found_in P.execs line e)).1 (fails_iff refl (not_past P.execs line e))
  refused_where C (call_step scratch run i) h = λ o.
      rw (enough_text scratch h.scratch_enough, (leb_iff run_words run).1 h.run_enough) (go C.halted o.going (at C i) (applies_place P C i o.applies).1 o.applies)
    where
      refuse : ℕ → ℕ → Reply
      refuse = refusal C (call_step scratch run i)

      answer : Outcome → Reply
      answer r = on_step r refuse (λ seen D. reply (stepped (Ok (Steps.Carried seen))) D) (reply (stepped (Ok Steps.Uncaught)) (halt C))

      taken : Applies P C i → (is_refused (answer (step P C i)).answer ≡ true) ↔ Lacks C i
      taken (inl (s, D, r)) = rw (carried_out_lem P r) (fails_iff refl (reduces_or_lacks P C i r))
      taken (inr (inl z)) = rw (halts_out P z) (fails_iff refl (halts_or_lacks P C i z))
      taken (inr (inr l)) = rw (lacks_out P l) (holds_iff refl l)

      go : (b : Bool) → b ≡ false → (o : Option Process) {q : Process} → o ≡ some q → Applies P C i
          → (is_refused (on_going b refuse (on_place o refuse (answer (step P C i)))).answer ≡ true) ↔ Lacks C i
      go true g o e a = absurd (true≢false g)
      go false g none e a = absurd (none-ne-some _ e)
      go false g (some q) e a = taken a
  refused_where C (call_run_on scratch run budget) h =
      rw (enough_text scratch h.scratch_enough, (leb_iff run_words run).1 h.run_enough) (run_never_refused P C budget)
  refused_where C (call_report scratch run) h = rw (enough_text scratch h.scratch_enough, (leb_iff run_words run).1 h.run_enough) refl
  refused_where C (call_places scratch run) h = rw (enough_text scratch h.scratch_enough, (leb_iff run_words run).1 h.run_enough) refl
  refused_where C (call_exec_name scratch line) h = rw (enough_text scratch h.scratch_enough) (go (get_elem? P.execs line) refl)
    where
      go : (o : Option Located) → get_elem? P.execs line ≡ o
          → (is_refused (on_line o (refusal C (call_exec_name scratch line)) (λ n. reply (name_given n.name 0 0) C)).answer ≡ true) ↔ (length P.execs ≤ line)
      go none e = holds_iff refl (none_past P.execs line e)
      go (some n) e = fails_iff refl (not_past P.execs line e)

  -- ── what a halted run answers
  started_anew : {C : Config} {scratch run line : ℕ} {r : Reply} → Replied P C (call_start scratch run line) r → is_refused r.answer ≡ false → r.config.halted ≡ false
  unfolding start_config
  started_anew (refuses n i) e = absurd (true≢false e)
  started_anew (begins g h) e = refl

  pub halted_answers : (C : Config) (c : Call) → lengths c → C.halted ≡ true → AnsweredHalted C c (respond text C c)
  unfolding respond
  halted_answers C (call_start scratch run line) h z = started_anew (replied C (call_start scratch run line))
  halted_answers C (call_step scratch run i) h z =
      rw (enough_text scratch h.scratch_enough, (leb_iff run_words run).1 h.run_enough) (at_halt _)
    where
      at_halt : (r : Reply) → on_going C.halted (refusal C (call_step scratch run i)) r ≡ reply (stepped (answers.refuses 22 0)) C
      at_halt r = ap (λ b. on_going b (refusal C (call_step scratch run i)) r) z
  halted_answers C (call_run_on scratch run budget) h z =
      rw (enough_text scratch h.scratch_enough, (leb_iff run_words run).1 h.run_enough) (ap (λ (r : Ran). reply (ran_on (Ok r.answer)) r.config) (halted_runs P C budget z))
  halted_answers C (call_report scratch run) h z = tt
  halted_answers C (call_places scratch run) h z = tt
  halted_answers C (call_exec_name scratch line) h z = tt
