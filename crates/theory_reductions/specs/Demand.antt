-- Demand 2: a script is accepted exactly where the typing rules derive it, and a step is carried out exactly as the reduction rules say.
use Rattle.std.specs.Prelude.{ℕ, ◌≡◌, refl, ◌↔◌, ◌⊎◌, List, Bool, true, false, Ok, Err}
use Rattle.std.proofs.Common.{sym, ◌∙◌, ap, inl, inr}
use Rattle.std.proofs.lemmas.Bool.{false≢true}
use Rattle.std.proofs.Math.Option.{Option, some, none}
use borrow.Author.Tests.{le-leb}
use Rattle.notation.specs.Limits.{scratch_words, run_words}
use Rattle.notation.specs.Tree.{Declaration}
use Rattle.calculus.specs.Program.{Program, program_of}
use Rattle.calculus.specs.Accepted.{accepted, checked}
use Rattle.calculus.specs.Configuration.{Process, Config, halt, at}
use Rattle.calculus.specs.Steps.{Outcome, carried, uncaught, not_open, lacking, step}
use Rattle.calculus.specs.Runs.{is_taken}
use Rattle.calculus.specs.Machine.{call_step, started, stepped, ran_on, reported, surveyed, name_given, Reply, reply, refusal, on_going, on_place, on_step, text_checked, respond}
use Rattle.calculus.specs.Demands.{Enough, Answered, AnsweredUncaught, Demand2}
use Rattle.calculus.specs.Reduces.{Reduces, Halts, Lacks, Applies, Open}
use Rattle.calculus.specs.declared.answers.Seen.{Seen}
use Rattle.calculus.specs.declared.answers.Stepped.TheVariants as Answers
use Rattle.theory_derivations.specs.Accepts.{accepts}
use Rattle.theory_reductions.specs.CarriedOut.{carried_out_lem, halts_out}
use Rattle.theory_reductions.specs.StepIff.{step_iff, halts_iff, applies_place}

-- the outcome of a step that a reply tells of, if it tells that a step was taken
abbrev told_in : Reply → Outcome
told_in r = elim r.answer [
  | started a ↦ not_open
  | stepped (Ok (Answers.Carried s)) ↦ carried s r.config
  | stepped (Ok Answers.Uncaught) ↦ uncaught
  | stepped (Err e) ↦ not_open
  | ran_on a ↦ not_open
  | reported a l ↦ not_open
  | surveyed a l ↦ not_open
  | name_given l n i ↦ not_open
]

module _ (text : List ℕ) (ds : List Declaration) (e : checked text ≡ accepted ds) (C : Config) (scratch run i : ℕ) (enough : Enough scratch run) where
  abbrev p : Program
  p = program_of ds

  abbrev step_reply : Bool → Option Process → Outcome → Reply
  step_reply halted q r =
      let refuse = refusal C (call_step scratch run i) in
      on_going halted refuse (on_place q refuse (on_step r refuse (λ seen D. reply (stepped (Ok (Answers.Carried seen))) D) (reply (stepped (Ok Answers.Uncaught)) (halt C))))

  answer : respond text C (call_step scratch run i) ≡ step_reply C.halted (at C i) (step p C i)
  unfolding respond text_checked
  answer = rw (le-leb scratch_words scratch enough.scratch_enough, e, le-leb run_words run enough.run_enough)

  -- a reply that tells of a step taken answers that very step, in a run that has not halted
  took : (b : Bool) (q : Option Process) (r : Outcome) {o : Outcome} → is_taken o ≡ true → told_in (step_reply b q r) ≡ o → (b ≡ false) × (r ≡ o)
  took true q r t h = absurd (false≢true (ap is_taken h ∙ t))
  took false none r t h = absurd (false≢true (ap is_taken h ∙ t))
  took false (some q) (carried s D) t h = (refl, h)
  took false (some q) uncaught t h = (refl, h)
  took false (some q) not_open t h = absurd (false≢true (ap is_taken h ∙ t))
  took false (some q) lacking t h = absurd (false≢true (ap is_taken h ∙ t))

  taken : {r : Reply} {o : Outcome} → told_in r ≡ o → is_taken o ≡ true → respond text C (call_step scratch run i) ≡ r → (C.halted ≡ false) × (step p C i ≡ o)
  taken z t h = took C.halted (at C i) (step p C i) t (ap told_in (sym answer ∙ h) ∙ z)

  -- and a rule that applies in such a run is replied to by its outcome
  replied : {r : Outcome} → C.halted ≡ false → (o : Applies p C i) → step p C i ≡ r → respond text C (call_step scratch run i) ≡ step_reply false (some (applies_place p C i o).0) r
  replied {r} g o z = answer ∙ ap (λ b. step_reply b (at C i) (step p C i)) g ∙ ap (step_reply false (at C i)) z ∙ ap (λ q. step_reply false q r) (applies_place p C i o).1

  carried_by_rules : (seen : Seen) (D : Config) → Answered text C scratch run i seen D ↔ ((C.halted ≡ false) × Reduces p C i seen D)
  carried_by_rules seen D = (
    λ h. let t = taken refl refl h in (t.0, (step_iff p C i).0 t.1),
    λ (g, r). replied g (inl (seen, D, r)) (carried_out_lem p r),
  )

  uncaught_by_rules : AnsweredUncaught text C scratch run i ↔ ((C.halted ≡ false) × Halts C i)
  uncaught_by_rules = (λ h. let t = taken refl refl h in (t.0, (halts_iff p C i).0 t.1), λ (g, h). replied g (inr (inl h)) (halts_out p h))

  chosen : Open p C i → ¬ Lacks C i
      → ((seen : Seen) × (D : Config) × Reduces p C i seen D × Answered text C scratch run i seen D) ⊎ (Halts C i × AnsweredUncaught text C scratch run i)
  chosen o n = go o.applies
    where
      go : Applies p C i → ((seen : Seen) × (D : Config) × Reduces p C i seen D × Answered text C scratch run i seen D) ⊎ (Halts C i × AnsweredUncaught text C scratch run i)
      go (inl (seen, D, r)) = inl (seen, D, r, (carried_by_rules seen D).1 (o.going, r))
      go (inr (inl h)) = inr (h, uncaught_by_rules.1 (o.going, h))
      go (inr (inr l)) = absurd (n l)

pub demand2 : Demand2
demand2 = record { accepts = accepts; carried_out = carried_by_rules; uncaught = uncaught_by_rules; chosen = chosen }
