-- What scratch decides: with too few words refusal 1, and with enough of them nothing, however many there are.
use Rattle.std.specs.Prelude.{ℕ, suc, ◌<◌, ◌≤◌, ◌≡◌, refl, ◌⊎◌, List, ◌++◌, true, length, take, drop}
use Rattle.std.proofs.Common.{sym, ◌∙◌, ap, inl, inr, arith, le-leb, take_at, drop_at}
use Rattle.std.proofs.lemmas.Bool.{lt-leb}
use Rattle.notation.specs.Limits.{scratch_words}
use Rattle.calculus.specs.Accepted.{checked}
use Rattle.calculus.specs.Demands.{is_refused}
use Rattle.calculus.specs.Machine.{Answer, Reply, idle}
use Rattle.theory_safety.specs.Replies.{text_checked_short}
use Rattle.check_text.specs.Texts.{words_in, words_length}
use Rattle.interpreter.specs.Entries.{Request, to_start, to_step, to_run_on, to_report, to_places, to_name, EntryCall, called, config_of, HoldsRun, Reached, Answers}
use Rattle.interpreter.specs.Past.{refusal_to, refusal_is, reply_refused, replies_alike}
use Rattle.interpreter.specs.Numbers.{demand1}

-- a refusal's answer tells that it is one
refuses : (q : Request) (k i : ℕ) → is_refused (refusal_to q (suc k) i) ≡ true
refuses (to_start line) k i = refl
refuses (to_step place) k i = refl
refuses (to_run_on budget) k i = refl
refuses to_report k i = refl
refuses to_places k i = refl
refuses (to_name line) k i = refl

abbrev answer_in : Reply → Answer
answer_in y = y.answer

-- ── one call of an entry
-- 1: "Scratch has under 6,144 words."; "After 1 no lent slice is touched"
pub record RefusedUntouched (m : EntryCall) : Type 0 where
  pub answer : m.answer ≡ refusal_to m.request 1 0
  pub scratch : m.left.scratch ≡ m.lent.scratch
  pub run : m.left.run ≡ m.lent.run

module _ (s : List ℕ) (m : EntryCall) (A : Answers s m) where
  abbrev lent : List ℕ
  lent = m.lent.scratch

  pub short_refused : length lent < scratch_words → RefusedUntouched m
  short_refused l =
      let reply = reply_refused s m.request (config_of s m.lent.run) (length lent) (length m.lent.run) 1 0 (text_checked_short s (length lent) l) in
      let answer = (A.known (λ h. absurd (omega (arith, l, h.scratch)))).0.is ∙ ap answer_in reply in
      record {
        answer = answer;
        scratch = A.scratch ∙ rw (lt-leb scratch_words (length lent) l);
        run = demand1.unchanged s m A (ap is_refused answer ∙ refuses m.request 0 0);
      }

  module _ (enough : scratch_words ≤ length lent) where
    words_left : m.left.scratch ≡ words_in s (checked s) ++ drop scratch_words lent
    words_left = A.scratch ∙ rw (le-leb scratch_words (length lent) enough)

    -- "after 2 to 15 the first 6,144 scratch words are zero; otherwise they hold the checked tables"
    pub first_decided : take scratch_words m.left.scratch ≡ words_in s (checked s)
    first_decided = ap (take scratch_words) words_left ∙ take_at (words_in s (checked s)) (drop scratch_words lent) scratch_words (words_length s (checked s))

    -- "Words past 6,144 of scratch .. are never written, for an accepted text either."
    pub past_unwritten : drop scratch_words m.left.scratch ≡ drop scratch_words lent
    past_unwritten = ap (drop scratch_words) words_left ∙ drop_at (words_in s (checked s)) (drop scratch_words lent) scratch_words (words_length s (checked s))

-- ── two calls of one text that differ in their scratch alone, of which both are lent enough
module _ (s ws : List ℕ) (q : Request) where
  -- 18 is tested in both or in neither
  reached_alike : {w w' : List ℕ} {a a' : Answer} {v v' vs vs' : List ℕ} → scratch_words ≤ length w' → Reached s (called q w ws a v vs) → Reached s (called q w' ws a' v' vs')
  reached_alike enough r = record { reads = r.reads; script = r.script; accepts = r.accepts; scratch = enough; run = r.run }

  module _ (w w' : List ℕ) (enough : scratch_words ≤ length w) (enough' : scratch_words ≤ length w') (a a' : Answer) (v v' vs vs' : List ℕ) where
    -- their answers are the same
    pub answers_alike : Answers s (called q w ws a v vs) → Answers s (called q w' ws a' v' vs') → a ≡ a'
    answers_alike A A' = go A.either
      where
        go : (Reached s (called q w ws a v vs) × (¬ HoldsRun s ws)) ⊎ (Reached s (called q w ws a v vs) → HoldsRun s ws) → a ≡ a'
        go (inl (r, d)) = (A.stranger r d).0.is ∙ ap answer_in (refusal_is idle q (length w) (length ws) 18 0 ∙ sym (refusal_is idle q (length w') (length ws) 18 0)) ∙ sym (A'.stranger (reached_alike enough' r) d).0.is
        go (inr k) = (A.known k).0.is ∙ ap answer_in (replies_alike s q (config_of s ws) (length w) (length w') (length ws) enough enough') ∙ sym (A'.known (λ r. k (reached_alike enough r))).0.is
