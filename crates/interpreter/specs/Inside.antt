-- What an entry comes to once the text is accepted, however many words of scratch were lent past those that it takes; and with the text's own verdict.
use Rattle.std.specs.Prelude.{ℕ, ◌<◌, ◌≤◌, ◌≡◌, refl, ◌⊎◌, List, ◌++◌, Bool, true, false, cond, leb, length, drop}
use Rattle.std.proofs.Common.{sym, ◌∙◌, ap, subst, inl, inr, true≢false, arith, leb-true, leb-false, length-append}
use Rattle.notation.specs.Limits.{scratch_words, run_words}
use Rattle.notation.specs.Tables.{tables, FitsTables}
use Rattle.notation.specs.Tree.{Declaration}
use Rattle.calculus.specs.Accepted.{Checked, accepted, faulty, checked}
use Rattle.calculus.specs.Configuration.{Config}
use Rattle.calculus.specs.Machine.{Answer, Reply, refusal, respond, idle}
use Rattle.calculus.specs.Program.{program_of}
use Rattle.std.specs.Prelude.{Ok, Err}
use Rattle.notation.specs.Refusals.{OrRefusal}
use Rattle.notation.specs.declared.refusal.Refusal.{Refusal}
use Rattle.theory_safety.specs.Replies.{enough_text}
use Rattle.read_tables.specs.Program.{program_in}
use Rattle.check_text.specs.Texts.{words_in, words_length, TextChecked}
use Rattle.check_accepted.specs.Texts.{program_is}
use Rattle.check_accepted.specs.Verdicts.{text_refused, scratch_enough_lem, script_of_lem}
use Rattle.interpreter.specs.Entries.{Request, called, call_as, use_of, is_read, scratch_after, HoldsRun, config_of, RunAfter, by_answer, Reached, Answers}
use Rattle.interpreter.specs.Past.{refusal_to, refuse, is_lent, on_lent, past_run, refusal_is, reply_refused, reply_accepted, lent_short, lent_past, untouched}

-- ── the scratch words, as the check leaves them
pub scratch_is : (s w x : List ℕ) (r : OrRefusal (Unit {0})) → TextChecked s w r x → x ≡ scratch_after s w
scratch_is s w x r t = go (leb scratch_words (length w)) refl
  where
    go : (b : Bool) → leb scratch_words (length w) ≡ b → x ≡ cond b (words_in s (checked s) ++ drop scratch_words w) w
    go true e = (t.enough (leb-true scratch_words (length w) e)).1
    go false e = (t.short (leb-false scratch_words (length w) e)).1

-- an accepted text was lent the words that its tables take
pub scratch_long : (s w x : List ℕ) (r : OrRefusal (Unit {0})) → TextChecked s w r x → r ≡ Ok tt → scratch_words ≤ length x
scratch_long s w x r t e =
    let l = scratch_enough_lem s w x r t e in
    omega (arith, ap length (t.enough l).1, length-append (words_in s (checked s)) (drop scratch_words w), words_length s (checked s))

-- ── a text that is accepted
-- where refusal 18 is tested
pub record Entered (q : Request) (ws : List ℕ) : Type 0 where
  pub reads : is_read (use_of q) ≡ true
  pub run : run_words ≤ length ws

pub record AnswersIn (s : List ℕ) (q : Request) (ws : List ℕ) (a : Answer) (vs : List ℕ) : Type 0 where
  pub either : (Entered q ws × (¬ HoldsRun s ws)) ⊎ (Entered q ws → HoldsRun s ws)
  pub stranger : Entered q ws → ¬ HoldsRun s ws → (n : ℕ) → (a ≡ (refusal idle (call_as q n (length ws)) 18 0).answer) × (vs ≡ ws)
  pub known : (Entered q ws → HoldsRun s ws) → (n : ℕ) → scratch_words ≤ n
      → (a ≡ (respond s (config_of s ws) (call_as q n (length ws))).answer) × RunAfter s q ws vs (respond s (config_of s ws) (call_as q n (length ws)))

-- a refusal of every entry that reads the run
pub record Strange (s ws : List ℕ) (e : Refusal) : Type 0 where
  pub refuses : (q : Request) → is_read (use_of q) ≡ true → AnswersIn s q ws (refusal_to q e.number e.at) ws

module _ (s : List ℕ) (ds : List Declaration) (ok : checked s ≡ accepted ds) (fits : FitsTables s) (q : Request) (ws : List ℕ) where
  abbrev C : Config
  C = config_of s ws

  -- the reply y, whatever scratch words were lent
  answers_by : {a : Answer} {vs : List ℕ} (y : Reply) → on_lent (use_of q) (length ws) (refuse q C) (past_run (program_of ds) q C) ≡ y
      → (Entered q ws → HoldsRun s ws) → a ≡ y.answer → RunAfter s q ws vs y → AnswersIn s q ws a vs
  answers_by {vs = vs} y f d e u = record {
    either = inr d;
    stranger = λ h g. absurd (g (d h));
    known = λ _ n h.
        let z = sym (reply_accepted s ds ok q C n (length ws) h ∙ f) in
        (e ∙ ap (λ (y : Reply). y.answer) z, subst (RunAfter s q ws vs) z u);
  }

  -- refusals 16 and 18
  pub answers_short : is_lent (use_of q) ≡ true → length ws < run_words → AnswersIn s q ws (refusal_to q 16 0) ws
  answers_short e l =
      answers_by (refuse q C 16 0) (lent_short (use_of q) (length ws) (refuse q C) _ e l) (λ h. absurd (omega (arith, h.run, l))) refl (untouched q C 16 0)

  pub answers_stranger : is_read (use_of q) ≡ true → run_words ≤ length ws → ¬ HoldsRun s ws → AnswersIn s q ws (refusal_to q 18 0) ws
  answers_stranger e l d = record {
    either = inl (record { reads = e; run = l }, d);
    stranger = λ _ _ n. (ap (λ (y : Reply). y.answer) (sym (refusal_is idle q n (length ws) 18 0)), refl);
    known = λ k. absurd (d (k (record { reads = e; run = l })));
  }

  -- past them
  pub answers_past : {a : Answer} {vs : List ℕ} (y : Reply) → past_run (program_in s (tables s)) q C ≡ y → (is_lent (use_of q) ≡ true → run_words ≤ length ws)
      → (is_read (use_of q) ≡ true → HoldsRun s ws) → a ≡ y.answer → RunAfter s q ws vs y → AnswersIn s q ws a vs
  answers_past y f l d e u =
      answers_by y (lent_past (use_of q) (length ws) (refuse q C) _ l ∙ ap (λ p. past_run p q C) (sym (program_is s ds ok fits)) ∙ f) (λ h. d h.reads) e u

-- ── with the text's own verdict
abbrev is_faulty : Checked → Bool
is_faulty (accepted ds) = false
is_faulty (faulty n i) = true

module _ (s w x : List ℕ) (v : OrRefusal (Unit {0})) (t : TextChecked s w v x) (q : Request) (ws : List ℕ) where
  pub answers_refused : {f : Refusal} → v ≡ Err f → Answers s (called q w ws (refusal_to q f.number f.at) x ws)
  answers_refused {f} e = record {
    scratch = scratch_is s w x v t;
    either = inr (λ h. absurd (unreached h));
    stranger = λ h. absurd (unreached h);
    known = λ _.
        let z = sym (reply_refused s q (config_of s ws) (length w) (length ws) f.number f.at (text_refused s w x v t f.number f.at e)) in
        (by_answer (ap (λ (y : Reply). y.answer) z), subst (RunAfter s q ws ws) z (untouched q (config_of s ws) f.number f.at));
  }
    where
      unreached : ¬ Reached s (called q w ws (refusal_to q f.number f.at) x ws)
      unreached h = true≢false (ap is_faulty (sym (text_refused s w x v t f.number f.at e) ∙ enough_text s h.script h.accepts (length w) h.scratch))

  pub answers_accepted : v ≡ (Ok tt) → {a : Answer} {vs : List ℕ} → AnswersIn s q ws a vs → Answers s (called q w ws a x vs)
  answers_accepted e {a} {vs} A = record {
    scratch = scratch_is s w x v t;
    either = go A.either;
    stranger = λ h d. let (e, u) = A.stranger (inner h) d (length w) in (by_answer e, u);
    known = λ k. let (e, u) = A.known (λ h. k (outer h)) (length w) enough in (by_answer e, u);
  }
    where
      enough : scratch_words ≤ length w
      enough = scratch_enough_lem s w x v t e

      outer : Entered q ws → Reached s (called q w ws a x vs)
      outer h = record { reads = h.reads; script = (script_of_lem s w x v t e).0; accepts = (script_of_lem s w x v t e).1; scratch = enough; run = h.run }

      inner : Reached s (called q w ws a x vs) → Entered q ws
      inner h = record { reads = h.reads; run = h.run }

      go : (Entered q ws × (¬ HoldsRun s ws)) ⊎ (Entered q ws → HoldsRun s ws)
          → (Reached s (called q w ws a x vs) × (¬ HoldsRun s ws)) ⊎ (Reached s (called q w ws a x vs) → HoldsRun s ws)
      go (inl (h, d)) = inl (outer h, d)
      go (inr k) = inr (λ h. k (inner h))
