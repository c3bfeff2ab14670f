-- Demand 2 of the code: an entry refuses a text exactly where it has no derivation, and a step's call does exactly what the reduction rules say.
use Rattle.std.specs.Prelude.{ℕ, ◌≤◌, ◌≡◌, refl, ◌↔◌, ◌⊎◌, List, Bool, true, false, leb, length, Ok, Err}
use Rattle.std.proofs.Common.{arith, sym, ◌∙◌, ap, subst, inl, inr, true≢false, leb-true, leb-false}
use Rattle.std.proofs.Math.Option.{Option, some}
use Rattle.notation.specs.Limits.{scratch_words}
use Rattle.notation.specs.Refusals.{OrRefusal}
use Rattle.notation.specs.Refusals as refusals
use Rattle.notation.specs.Tree.{Declaration}
use Rattle.calculus.specs.Accepted.{Checked, accepted, faulty, checked}
use Rattle.calculus.specs.Configuration.{Process, Config, halt, at}
use Rattle.calculus.specs.Demands.{Derivable, Enough, Answered, AnsweredUncaught, is_refused}
use Rattle.calculus.specs.Machine.{call_step, Answer, started, stepped, ran_on, reported, surveyed, name_given, Reply, reply, on_going, on_place, on_step, respond, idle}
use Rattle.calculus.specs.Program.{Program, program_of}
use Rattle.calculus.specs.Reduces.{Reduces, Halts, Lacks, Open}
use Rattle.calculus.specs.Steps.{Outcome, step}
use Rattle.calculus.specs.declared.answers.Seen.{Seen}
use Rattle.calculus.specs.declared.answers.Stepped.{Stepped}
use Rattle.calculus.specs.declared.answers.Stepped.TheVariants.{Carried, Uncaught}
use Rattle.theory_reductions.specs.CarriedOut.{lacks_out}
use Rattle.theory_reductions.specs.Demand.{demand2}
use Rattle.theory_reductions.specs.StepIff.{applies_place, one_reduction}
use Rattle.theory_refusals.specs.Refusals.{refusal_of, checked_numbered, respond_unrefused}
use Rattle.theory_safety.specs.Replies.{Replied, refuses, carries_out, halts_run, replied, refused_where, text_checked_short, text_checked_enough}
use Rattle.interpreter.specs.Entries.{Request, to_step, EntryCall, call_of, read, use_of, config_of, HoldsRun, Leaves, left_as, RunAfter, Gives, Reached, Answers, Steps}
use Rattle.interpreter.specs.Past.{refuse, on_lent, past_run, refusal_is, reply_refused, reply_accepted, lent_past}
use Rattle.interpreter.specs.Cases.{of_unrefused, refusal_number, past_text_by}
use Rattle.interpreter.specs.Choosing.{StepsByRules, EntriesDemand2}

-- ── the numbers of the refusals past a text that is accepted
-- an answer that is no refusal, or one by 16 or more
abbrev Late : Answer → Type 0
Late a = is_refused a ≡ true → 16 ≤ refusal_of a

past_late : (p : Program) (q : Request) (C : Config) (m : ℕ) → Late (on_lent (use_of q) m (refuse q C) (past_run p q C)).answer
past_late p q C m = past_text_by Late p q C m (λ k h _. let e = refusal_number q k 0 in omega (arith, h, e)) (of_unrefused Late (λ a e t. absurd (true≢false (sym t ∙ e))) q)

-- ── the text: refused by 2 to 15 exactly where it has no derivation
abbrev ByText : Answer → Type 0
ByText a = (2 ≤ refusal_of a) × (refusal_of a ≤ 15)

abbrev Underivable : List ℕ → Type 0
Underivable s = ¬ ((ds : List Declaration) × Derivable s ds)

module _ (s : List ℕ) (m : EntryCall) (A : Answers s m) where
  abbrev C : Config
  C = config_of s m.lent.run

  abbrev words : ℕ
  words = length m.lent.scratch

  -- the plain machine's reply is refused so in no other case
  by_late : {y : Reply} → respond s C (call_of m) ≡ y → Late y.answer → ByText (respond s C (call_of m)).answer → ⊥
  by_late {y} e l b = go (is_refused (respond s C (call_of m)).answer) refl
    where
      go : (r : Bool) → is_refused (respond s C (call_of m)).answer ≡ r → ⊥
      go true r = let h = subst (λ (y : Reply). Late y.answer) (sym e) l r in omega (arith, b, h)
      go false r = let h = (respond_unrefused s C (call_of m) r).0 in omega (arith, b, h)

  refused_underivable : ByText m.answer → (scratch_words ≤ words) × Underivable s
  refused_underivable b = go A.either
    where
      by_words : ByText (respond s C (call_of m)).answer → (t : Bool) → leb scratch_words words ≡ t → (scratch_words ≤ words) × Underivable s
      by_words b true t =
          let h = leb-true scratch_words words t in
          (h, λ (ds, d). by_late (reply_accepted s ds ((demand2.accepts s ds).1 d) m.request C words (length m.lent.run) h) (past_late (program_of ds) m.request C (length m.lent.run)) b)
      by_words b false t =
          let e = reply_refused s m.request C words (length m.lent.run) 1 0 (text_checked_short s words (leb-false scratch_words words t)) in
          let n = ap (λ (y : Reply). refusal_of y.answer) e ∙ refusal_number m.request 1 0 in
          absurd (omega (arith, b, n))

      go : (Reached s m × (¬ HoldsRun s m.lent.run)) ⊎ (Reached s m → HoldsRun s m.lent.run) → (scratch_words ≤ words) × Underivable s
      go (inl (h, d)) =
          let e = ap refusal_of (A.stranger h d).0.is ∙ ap (λ (y : Reply). refusal_of y.answer) (refusal_is idle m.request words (length m.lent.run) 18 0) ∙ refusal_number m.request 18 0 in
          absurd (omega (arith, b, e))
      go (inr k) = by_words (subst ByText (A.known k).0.is b) (leb scratch_words words) refl

  underivable_refused : (scratch_words ≤ words) × Underivable s → ByText m.answer
  underivable_refused (h, n) = go (checked s) refl
    where
      go : (t : Checked) → checked s ≡ t → ByText m.answer
      go (accepted ds) e = absurd (n (ds, (demand2.accepts s ds).0 e))
      go (faulty k i) e =
          let answer = (A.known (λ r. absurd (n (r.script, (demand2.accepts s r.script).0 r.accepts)))).0.is in
          let reply = reply_refused s m.request C words (length m.lent.run) k i (text_checked_enough s words h ∙ e) in
          let z = ap refusal_of answer ∙ ap (λ (y : Reply). refusal_of y.answer) reply ∙ refusal_number m.request k i in
          let b = (checked_numbered s k i e).0 in
          omega (arith, z, b)

-- ── a step's call
abbrev step_in : OrRefusal Stepped → Answer → OrRefusal Stepped
step_in r (started a) = r
step_in r (stepped a) = a
step_in r (ran_on a) = r
step_in r (reported a l) = r
step_in r (surveyed a l) = r
step_in r (name_given l n i) = r

-- a reply that tells of a halt leaves the configuration halted
halted_by : {p : Program} {C : Config} {scratch run place : ℕ} {y : Reply} → Replied p C (call_step scratch run place) y → y.answer ≡ stepped (Ok Uncaught) → y.config ≡ halt C
halted_by (refuses n i) e = absurd (true≢false (ap is_refused e))
halted_by (carries_out seen D g h) e = absurd (let z : ◌≡◌ {A = ℕ} 0 1 = cc in omega arith)
halted_by (halts_run g h) e = refl

module _ (s : List ℕ) (ds : List Declaration) (ok : checked s ≡ accepted ds) (w ws v vs : List ℕ) (i : ℕ) (r : OrRefusal Stepped) (A : Steps s w ws i r v vs) (enough : Enough (length w) (length ws)) (h : HoldsRun s ws) where
  abbrev p : Program
  p = program_of ds

  abbrev B : Config
  B = config_of s ws

  abbrev plain : Reply
  plain = respond s B (call_step (length w) (length ws) i)

  abbrev Tells : Reply → Type 0
  Tells y = Gives (stepped r) y × RunAfter s (to_step i) ws vs y

  tells : Tells plain
  tells = A.known (λ _. h)

  -- what the plain machine replies is what is answered and left
  as_replied : {a : OrRefusal Stepped} {D : Config} → plain ≡ reply (stepped a) D → is_refused (stepped a) ≡ false → (r ≡ a) × Leaves s ws vs D
  as_replied {a} {D} e f = let y = subst Tells e tells in (ap (step_in r) y.0.is, subst (left_as s ws vs D) f y.1.is)

  -- an answer that is no refusal leaves the plain machine's configuration
  left : is_refused (stepped r) ≡ false → Leaves s ws vs plain.config
  left f = subst (left_as s ws vs plain.config) (ap is_refused (sym tells.0.is) ∙ f) tells.1.is

  -- and where it leaves D, it is the reply
  replies : {a : OrRefusal Stepped} {D : Config} → r ≡ a → is_refused (stepped a) ≡ false → Leaves s ws vs D → plain ≡ reply (stepped a) D
  replies {a} {D} e f l =
      let z = sym tells.0.is ∙ ap stepped e in
      let c = sym (left (ap (λ b. is_refused (stepped b)) e ∙ f)).is ∙ l.is in
      λ j. reply (z j) (c j)

  carried_out_lem : (seen : Seen) (D : Config) → ((r ≡ Ok (Carried seen)) × Leaves s ws vs D) ↔ ((B.halted ≡ false) × Reduces p B i seen D)
  carried_out_lem seen D =
      let k = demand2.carried_out s ds ok B (length w) (length ws) i enough seen D in
      (λ (e, l). k.0 (replies e refl l), λ t. as_replied (k.1 t) refl)

  halts : ((r ≡ Ok Uncaught) × Leaves s ws vs (halt B)) ↔ ((B.halted ≡ false) × Halts B i)
  halts = let k = demand2.uncaught s ds ok B (length w) (length ws) i enough in (λ (e, l). k.0 (replies e refl l), λ t. as_replied (k.1 t) refl)

  taken : is_refused (stepped r) ≡ false → ((seen : Seen) × (D : Config) × (r ≡ Ok (Carried seen)) × Leaves s ws vs D) ⊎ ((r ≡ Ok Uncaught) × Leaves s ws vs (halt B))
  taken f = go r refl f
    where
      go : (a : OrRefusal Stepped) → r ≡ a → is_refused (stepped a) ≡ false → ((seen : Seen) × (D : Config) × (r ≡ Ok (Carried seen)) × Leaves s ws vs D) ⊎ ((r ≡ Ok Uncaught) × Leaves s ws vs (halt B))
      go (Ok (Carried seen)) e g = inl (seen, plain.config, e, left f)
      go (Ok Uncaught) e g = inr (e, subst (Leaves s ws vs) (halted_by (replied s ds ok B (call_step (length w) (length ws) i)) (sym tells.0.is ∙ ap stepped e)) (left f))
      go (Err k) e g = absurd (true≢false g)

  refused : Open p B i → (is_refused (stepped r) ≡ true) ↔ Lacks B i
  refused o = subst (λ a. (is_refused a ≡ true) ↔ Lacks B i) (sym tells.0.is) (refused_where s ds ok B (call_step (length w) (length ws) i) enough o)

  lacking_21 : Open p B i → Lacks B i → r ≡ refusals.refuses 21 0
  lacking_21 o l = ap (step_in r) (tells.0.is ∙ ap (λ (y : Reply). y.answer) reply_is)
    where
      f : ℕ → ℕ → Reply
      f = refuse (to_step i) B

      after : Bool → Option Process → Outcome → Reply
      after b q t = on_going b f (on_place q f (on_step t f (λ seen D. reply (stepped (Ok (Carried seen))) D) (reply (stepped (Ok Uncaught)) (halt B))))

      reply_is : plain ≡ reply (stepped (refusals.refuses 21 0)) B
      reply_is =
          reply_accepted s ds ok (to_step i) B (length w) (length ws) enough.scratch_enough
          ∙ lent_past read (length ws) f _ (λ _. enough.run_enough)
          ∙ ap (λ b. after b (at B i) (step p B i)) o.going
          ∙ ap (λ q. after false q (step p B i)) (applies_place p B i o.applies).1
          ∙ ap (λ t. after false (some (applies_place p B i o.applies).0) t) (lacks_out p l)

  chosen : Open p B i → ¬ Lacks B i
      → ((seen : Seen) × (D : Config) × Reduces p B i seen D × (r ≡ Ok (Carried seen)) × Leaves s ws vs D) ⊎ (Halts B i × (r ≡ Ok Uncaught) × Leaves s ws vs (halt B))
  chosen o n = go (demand2.chosen s ds ok B (length w) (length ws) i enough o n)
    where
      go : ((seen : Seen) × (D : Config) × Reduces p B i seen D × Answered s B (length w) (length ws) i seen D) ⊎ (Halts B i × AnsweredUncaught s B (length w) (length ws) i)
          → ((seen : Seen) × (D : Config) × Reduces p B i seen D × (r ≡ Ok (Carried seen)) × Leaves s ws vs D) ⊎ (Halts B i × (r ≡ Ok Uncaught) × Leaves s ws vs (halt B))
      go (inl (seen, D, t, a)) = let y = as_replied a refl in inl (seen, D, t, y.0, y.1)
      go (inr (t, a)) = let y = as_replied a refl in inr (t, y.0, y.1)

  by_rules : StepsByRules s p B i ws vs r
  by_rules = record { carried_out = carried_out_lem; uncaught = halts; taken = taken; refused = refused; lacking = lacking_21; chosen = chosen }

pub entries_demand2 : EntriesDemand2
entries_demand2 = record { accepts = λ s m A. (refused_underivable s m A, underivable_refused s m A); steps = by_rules }

-- ── what this rules out, of programs that keep their other promises
module _ {s : List ℕ} {p : Program} {C : Config} {i : ℕ} {ws : List ℕ} where
  -- "not open" everywhere, or any other refusal, where a step is open and does not lack
  pub refuses_breaks : {vs : List ℕ} {n k : ℕ} → StepsByRules s p C i ws vs (refusals.refuses n k) → Open p C i → ¬ Lacks C i → ⊥
  refuses_breaks h o n = n ((h.refused o).0 refl)

  -- "a step that alters nothing", where the rules leave another configuration
  pub alters_nothing_breaks : {seen : Seen} {D : Config} → StepsByRules s p C i ws ws (Ok (Carried seen)) → HoldsRun s ws → config_of s ws ≡ C → Reduces p C i seen D → (D ≡ C → ⊥) → ⊥
  alters_nothing_breaks {seen} h f e r n = n (one_reduction p C i r ((h.carried_out seen C).0 (refl, record { holds = f; is = e; past = refl; long = refl })).1).1
