-- The words of an answer tell its number and its values: so two calls of a text that ask the same, and are told the same words, have one answer.
use Rattle.std.specs.Prelude.{ℕ, zero, suc, ◌+◌, ◌≤◌, ◌≡◌, refl, List, [], ◌∷◌, ◌++◌, length, get_or, take, drop, Ok}
use Rattle.std.proofs.Common.{arith, sym, ◌∙◌, ap, subst, append_assoc, lt-ltb, take_at}
use Rattle.notation.specs.Limits.{text_limit}
use Rattle.calculus.specs.Answers.{Told, seen_values, started_as, stepped_as, ran_on_as, counted_as}
use Rattle.calculus.specs.Machine.{Answer, stepped, ran_on, name_given}
use Rattle.calculus.specs.declared.answers.Seen.{Seen}
use Rattle.calculus.specs.declared.answers.Seen.TheVariants.{Nothing, Label, Close, Passed, Cancelled}
use Rattle.calculus.specs.declared.answers.Stepped.TheVariants as steps
use Rattle.calculus.specs.declared.answers.RanOn.{RanOn}
use Rattle.calculus.specs.declared.answers.RanOn.TheVariants as runs
use Rattle.interpreter.specs.Entries.{Request, to_start, to_step, to_run_on, to_report, to_places, to_name, called, answer_as, Answers, exec_offset}
use Rattle.interpreter.specs.Past.{refusal_to}
use Rattle.interpreter.specs.Cases.{OfGiven, every_answer}
use Rattle.interpreter.specs.Apart.{answers_apart}
use Rattle.interpreter.specs.NameStands.{PartAt, name_stands, name_limit_lem}
use Rattle.interpreter.specs.RefusedAt.{placed_by}
use Rattle.call_words.specs.Words.{as_word, words_of, padded}
use Rattle.call_words.specs.Exported.{place_of}

-- ── the number and values that words tell, by what was asked
-- how many values tell what was seen, by its kind; 5 is uncaught
abbrev seen_count : ℕ → ℕ
seen_count zero = 1
seen_count (suc zero) = 3
seen_count (suc (suc zero)) = 2
seen_count (suc (suc (suc zero))) = 4
seen_count (suc (suc (suc (suc zero)))) = 2
seen_count (suc (suc (suc (suc (suc k))))) = 1

-- how many tell a run-on's end: 1 is that something was shown
abbrev end_count : ℕ → List ℕ → ℕ
end_count zero l = 2
end_count (suc zero) l = 2 + seen_count (get_or l 2 0)
end_count (suc (suc k)) l = 2

abbrev given_in : List ℕ → Request → List ℕ → List ℕ
given_in s (to_start line) l = []
given_in s (to_step place) l = take (seen_count (get_or l 0 0)) l
given_in s (to_run_on budget) l = take (end_count (get_or l 0 0) l) l
given_in s to_report l = take (suc (get_or l 0 0)) l
given_in s to_places l = take (suc (get_or l 0 0)) l
given_in s (to_name line) l = take (get_or l 1 0) (drop (get_or l 0 0) s)

abbrev values_in : List ℕ → Request → ℕ → List ℕ → List ℕ
values_in s q zero l = given_in s q l
values_in s q (suc n) l = take 1 l

abbrev pub told_in : List ℕ → Request → List ℕ → Told
told_in s q words = record { refusal = get_or words 0 0; values = values_in s q (get_or words 0 0) (drop 1 words) }

-- ── they are those of the answer
abbrev ToldAs : List ℕ → Request → Answer → Type 0
ToldAs s q a = told_in s q (padded (words_of s (place_of s q) a)) ≡ answer_as a

-- an offset of a text that is read fits its word
as_word_lem : (n : ℕ) → n ≤ text_limit → as_word n ≡ n
unfolding as_word
as_word_lem n h = rw (lt-ltb n 4294967295 (omega (arith, h)))

refusal_told : (s : List ℕ) (q : Request) (k i : ℕ) → 1 ≤ k → i ≤ text_limit → ToldAs s q (refusal_to q k i)
unfolding words_of started_as stepped_as ran_on_as counted_as
refusal_told s q zero i h b = absurd (omega (arith, h))
refusal_told s (to_start line) (suc k) i h b = ap (λ j. record { refusal = suc k; values = j ∷ [] }) (as_word_lem i b)
refusal_told s (to_step place) (suc k) i h b = ap (λ j. record { refusal = suc k; values = j ∷ [] }) (as_word_lem i b)
refusal_told s (to_run_on budget) (suc k) i h b = ap (λ j. record { refusal = suc k; values = j ∷ [] }) (as_word_lem i b)
refusal_told s to_report (suc k) i h b = ap (λ j. record { refusal = suc k; values = j ∷ [] }) (as_word_lem i b)
refusal_told s to_places (suc k) i h b = ap (λ j. record { refusal = suc k; values = j ∷ [] }) (as_word_lem i b)
refusal_told s (to_name line) (suc k) i h b = ap (λ j. record { refusal = suc k; values = j ∷ [] }) (as_word_lem i b)

step_told : (s : List ℕ) (place : ℕ) (seen : Seen) → ToldAs s (to_step place) (stepped (Ok (steps.Carried seen)))
unfolding words_of stepped_as seen_values
step_told s place Nothing = refl
step_told s place (Label n at) = refl
step_told s place (Close n) = refl
step_told s place (Passed n m gone) = refl
step_told s place (Cancelled n) = refl

shown_told : (s : List ℕ) (budget t : ℕ) (seen : Seen) → ToldAs s (to_run_on budget) (ran_on (Ok (runs.Shown seen t)))
unfolding words_of ran_on_as seen_values
shown_told s budget t Nothing = refl
shown_told s budget t (Label n at) = refl
shown_told s budget t (Close n) = refl
shown_told s budget t (Passed n m gone) = refl
shown_told s budget t (Cancelled n) = refl

ran_told : (s : List ℕ) (budget : ℕ) (a : RanOn) → ToldAs s (to_run_on budget) (ran_on (Ok a))
unfolding words_of ran_on_as
ran_told s budget (runs.Shown seen t) = shown_told s budget t seen
ran_told s budget (runs.Done t) = refl
ran_told s budget (runs.Full t) = refl
ran_told s budget (runs.Stopped t) = refl
ran_told s budget (runs.Uncaught t) = refl

-- a list that is followed by something, from its count on
listed_first : (l z : List ℕ) → take (length l) ((l ++ []) ++ z) ≡ l
listed_first l z = ap (take (length l)) (append_assoc l [] z) ∙ take_at l z (length l) refl

-- a name of the text, by its place and its length
name_told : (s part : List ℕ) (line : ℕ) → PartAt s (exec_offset s line) part → length s ≤ text_limit → ToldAs s (to_name line) (name_given part 0 0)
unfolding words_of
name_told s part line p b =
    let i = as_word_lem (exec_offset s line) (omega (arith, p.within, b)) in
    let n = as_word_lem (length part) (omega (arith, p.within, b)) in
    (λ t. record { refusal = 0; values = take (n t) (drop (i t) s) }) ∙ ap (λ l. record { refusal = 0; values = l }) (sym p.is)

-- a name that is given is the text's: what `name_stands` says
record Standing (s : List ℕ) (q : Request) (a : Answer) : Type 0 where
  part : (line : ℕ) (p : List ℕ) (i : ℕ) → q ≡ to_name line → a ≡ name_given p 0 i → PartAt s (exec_offset s line) p × (length s ≤ text_limit)

abbrev ToldIf : List ℕ → Request → Answer → Type 0
ToldIf s q a = Standing s q a → ToldAs s q a

given_told : (s : List ℕ) (q : Request) → OfGiven (ToldIf s q) q
unfolding words_of started_as stepped_as counted_as
given_told s (to_start line) = λ _. refl
given_told s (to_step place) = (λ seen _. step_told s place seen, λ _. refl)
given_told s (to_run_on budget) = λ a _. ran_told s budget a
given_told s to_report = λ l _. ap (λ r. record { refusal = 0; values = length l ∷ r }) (listed_first l _)
given_told s to_places = λ l _. ap (λ r. record { refusal = 0; values = length l ∷ r }) (listed_first l _)
given_told s (to_name line) = λ part h. let p = h.part line part 0 refl refl in name_told s part line p.0 p.1

module _ (s : List ℕ) (q : Request) where
  pub words_told : (w ws v vs : List ℕ) (a : Answer) → Answers s (called q w ws a v vs) → told_in s q (padded (words_of s (place_of s q) a)) ≡ answer_as a
  words_told w ws v vs a A =
      every_answer s (called q w ws a v vs) A (ToldIf s q) (λ k i c _. refusal_told s q k i c.number (placed_by s k i c).limit) (given_told s q) (record { part = stands })
    where
      stands : (line : ℕ) (p : List ℕ) (i : ℕ) → q ≡ to_name line → a ≡ name_given p 0 i → PartAt s (exec_offset s line) p × (length s ≤ text_limit)
      stands line p i e f =
          let B = subst (λ q. Answers s (called q w ws (name_given p 0 i) v vs)) e (subst (λ a. Answers s (called q w ws a v vs)) f A) in
          (name_stands s w ws v vs p line i B, name_limit_lem s w ws v vs p line i B)

  -- the same words, the same answer
  pub words_apart : (w ws v vs : List ℕ) (a : Answer) → Answers s (called q w ws a v vs) → (w' ws' v' vs' : List ℕ) (a' : Answer) → Answers s (called q w' ws' a' v' vs')
      → padded (words_of s (place_of s q) a) ≡ padded (words_of s (place_of s q) a') → a ≡ a'
  words_apart w ws v vs a A w' ws' v' vs' a' A' e =
      answers_apart s s (called q w ws a v vs) (called q w' ws' a' v' vs') A A' refl (sym (words_told w ws v vs a A) ∙ ap (told_in s q) e ∙ words_told w' ws' v' vs' a' A')
