-- Of every report that its entry does not refuse, whatever was lent: the numbers are those of the outside channels still open, rising, each once.
use Rattle.std.specs.Prelude.{ℕ, ◌≡◌, refl, ◌⊎◌, List, Bool, true, false, cond, leb, length, take, Ok}
use Rattle.std.proofs.Common.{sym, ◌∙◌, ap, inl, inr, true≢false, leb-true}
use Rattle.notation.specs.Refusals.{OrRefusal}
use Rattle.notation.specs.Limits.{run_words}
use Rattle.notation.specs.Tree.{Declaration}
use Rattle.calculus.specs.Accepted.{Checked, accepted, faulty}
use Rattle.calculus.specs.Configuration.{Config}
use Rattle.calculus.specs.Demands.{is_refused}
use Rattle.calculus.specs.Machine.{Answer, reported, Reply, text_checked, on_program}
use Rattle.calculus.specs.Program.{program_of}
use Rattle.calculus.specs.Reports.{ReportOf}
use Rattle.calculus.proofs.Reports.{report_iff}
use Rattle.calculus.specs.Runs.{report}
use Rattle.calculus.specs.declared.answers.Report.{Report}
use Rattle.interpreter.specs.Entries.{to_report, EntryCall, called, use_of, HoldsRun, config_of, Reached, Reports, report_answer}
use Rattle.interpreter.specs.Past.{refuse, past_run, on_lent, reply_by, past_text}

module _ (s w ws : List ℕ) (a : OrRefusal Report) (v : List ℕ) (R : Reports s w ws a v) (r : Report) (e : a ≡ Ok r) where
  abbrev C : Config
  C = config_of s ws

  abbrev m : EntryCall
  m = called to_report w ws (report_answer a) v ws

  abbrev numbers : List ℕ
  numbers = take r.open r.numbers

  -- its answer, which is no refusal's
  told : report_answer a ≡ reported (Ok r.open) numbers
  told = ap report_answer e

  unrefused : {a : Answer} → reported (Ok r.open) numbers ≡ a → is_refused a ≡ true → ⊥
  unrefused z f = true≢false (sym f ∙ ap is_refused (sym z))

  module _ (known : Reached s m → HoldsRun s ws) where
    -- past 16 the run holds a configuration, and the reply is its report
    by_run : (ds : List Declaration) → text_checked s (length w) ≡ accepted ds → (b : Bool) → leb run_words (length ws) ≡ b
        → reported (Ok r.open) numbers ≡ (cond b (past_run (program_of ds) to_report C) (refuse to_report C 16 0)).answer → ReportOf C numbers
    by_run ds f true b z =
        let x : numbers ≡ report C = cc in
        let (script, wide) = past_text s ds (length w) f in
        (report_iff (known (record { reads = refl; script = ds; accepts = script; scratch = wide; run = leb-true run_words (length ws) b })).is numbers).0 x
    by_run ds f false b z = absurd (unrefused z refl)

    -- past the refusals of the text
    by_text : (t : Checked) → text_checked s (length w) ≡ t
        → reported (Ok r.open) numbers ≡ (on_program t (refuse to_report C) (λ p. on_lent (use_of to_report) (length ws) (refuse to_report C) (past_run p to_report C))).answer → ReportOf C numbers
    by_text (accepted ds) f z = by_run ds f (leb run_words (length ws)) refl z
    by_text (faulty k i) f z = absurd (unrefused z refl)

  pub rising_report : ReportOf (config_of s ws) (take r.open r.numbers)
  rising_report = go R.answers.either
    where
      go : (Reached s m × (¬ HoldsRun s ws)) ⊎ (Reached s m → HoldsRun s ws) → ReportOf C numbers
      go (inl (h, d)) = absurd (unrefused (sym told ∙ (R.answers.stranger h d).0.is) refl)
      go (inr k) = by_text k (text_checked s (length w)) refl (sym told ∙ (R.answers.known k).0.is ∙ ap (λ (y : Reply). y.answer) (reply_by s to_report C (length w) (length ws)))
