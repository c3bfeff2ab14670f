-- The words of an answer, by its cases.
use Rattle.std.specs.Prelude.{ℕ, zero, suc, ◌+◌, ◌≤◌, ◌≡◌, refl, List, [], ◌∷◌, ◌++◌, length, take, Ok}
use Rattle.std.proofs.Math.Path.{sym}
use Rattle.std.proofs.Common.{◌∙◌, ap, append-nil, arith, length-take}
use Rattle.calculus.specs.Answers.{seen_values, counted_as}
use Rattle.notation.specs.declared.refusal.Refusal.{Refusal}
use Rattle.calculus.specs.Machine.{name_given}
use Rattle.calculus.specs.declared.answers.Seen.{Seen}
use Rattle.calculus.specs.declared.answers.Seen.TheVariants.{Nothing, Label, Close, Passed, Cancelled}
use Rattle.calculus.specs.declared.answers.Report.{Report}
use Rattle.calculus.specs.declared.answers.Places.{Places}
use Rattle.interpreter.specs.Entries.{ZerosFrom, report_answer, places_answer}
use Rattle.call_words.specs.Words.{answer_words, as_word, seen_words, words_of, filled, padded}
use Rattle.call_words.specs.Laying.{filled_up, filled_from}

-- ── what was seen
seen_few : (s : List ℕ) (seen : Seen) → length (seen_words s seen) ≤ 4
unfolding seen_words seen_values
seen_few s Nothing = omega arith
seen_few s (Label n at) = omega arith
seen_few s (Close n) = omega arith
seen_few s (Passed n m gone) = omega arith
seen_few s (Cancelled n) = omega arith

pub seen_follows : (s p : List ℕ) (seen : Seen) {what : List ℕ} → length p + 4 ≤ answer_words → what ≡ filled 4 (seen_words s seen) → padded (p ++ what) ≡ padded (p ++ seen_words s seen)
seen_follows s p seen h f = ap (λ x. padded (p ++ x)) f ∙ filled_up answer_words 4 p (seen_words s seen) (seen_few s seen) h

-- ── what is listed, in an array that is zero from its count on
listed_told : (n : ℕ) (l : List ℕ) → length l ≤ 128 → ZerosFrom n l → padded (0 ∷ n ∷ l) ≡ padded (0 ∷ (n ∷ take n l ++ []))
listed_told n l h z =
    let p : List ℕ = 0 ∷ n ∷ [] in
    let m : length (take n l) ≤ length l = omega (arith, length-take n l) in
    ap (λ x. padded (p ++ x)) (filled_from n l z)
    ∙ filled_up answer_words (length l) p (take n l) m (omega (arith, h)) ∙ ap (λ x. padded (0 ∷ x)) (sym (append-nil (n ∷ take n l)))

module _ (s : List ℕ) (place : ℕ) where
  pub report_told : (r : Report) → length r.numbers ≤ 128 → ZerosFrom r.open r.numbers → padded (0 ∷ r.open ∷ r.numbers) ≡ padded (words_of s place (report_answer (Ok r)))
  unfolding words_of counted_as
  report_told r h z = listed_told r.open r.numbers h z

  pub places_told : (r : Places) → length r.steps ≤ 128 → ZerosFrom r.processes r.steps → padded (0 ∷ r.processes ∷ r.steps) ≡ padded (words_of s place (places_answer (Ok r)))
  unfolding words_of counted_as
  places_told r h z = listed_told r.processes r.steps h z

-- ── a name that is refused
pub name_refused : (s : List ℕ) (place : ℕ) (e : Refusal) → 1 ≤ e.number → padded (e.number ∷ as_word e.at ∷ []) ≡ padded (words_of s place (name_given [] e.number e.at))
unfolding words_of
name_refused s place e h = go e.number h
  where
    go : (n : ℕ) → 1 ≤ n → padded (n ∷ as_word e.at ∷ []) ≡ padded (words_of s place (name_given [] n e.at))
    go zero h = absurd (omega (arith, h))
    go (suc n) h = refl
