-- The words of an answer, as their parts are put one after another.
use Rattle.std.specs.Prelude.{ℕ, ◌+◌, ◌<◌, ◌≡◌, refl, List, [], ◌∷◌, ◌++◌, true, false, length, take, get_or, Ok}
use Rattle.std.proofs.Common.{ap, sym, ◌∙◌, append_assoc, append-nil, add-one, take-suc, arith}
use Rattle.notation.specs.Bytes.{bytes}
use Rattle.notation.specs.Refusals.{OrRefusal}
use Rattle.notation.specs.Token.{name_at}
use Rattle.calculus.specs.Printed.{decimal}
use Rattle.calculus.specs.declared.answers.Seen.{Seen}
use Rattle.calculus.specs.declared.answers.Seen.TheVariants.{Nothing, Label, Close, Passed, Cancelled}
use Rattle.print_bytes.specs.Writing.{Appended, appended_on, appended_as}
use Rattle.print_bytes.specs.Seen.{over_with, seen_with}
use Rattle.print_answers.specs.Answers.{over_words, seen_words, steps_words, each_words}

-- an answer's words, by what the answer is
pub said : {A : Type 0} (words : OrRefusal A → List ℕ) {answer : OrRefusal A} {x y : A} → answer ≡ Ok x → x ≡ y → {o a : List ℕ} {at r : ℕ} → Appended o a at r (words (Ok y)) → Appended o a at r (words answer)
said words e f p = appended_as (sym (ap words (e ∙ ap Ok f))) p

-- ── what was seen, with the words of a log around it
over_is : (n : ℕ) (what : List ℕ) → over_with (bytes ", #") (bytes " ") [] n what ≡ over_words n what
over_is n what = simp (append_assoc, append-nil)

pub seen_is : (s : List ℕ) (seen : Seen) → seen_with (bytes ", #") (bytes " ") [] s seen ≡ seen_words s seen
unfolding seen_with seen_words
seen_is s Nothing = refl
seen_is s (Label n at) = over_is n (bytes "'" ++ name_at s (at + 1))
seen_is s (Close n) = over_is n (bytes "()")
seen_is s (Passed n m true) = ap (λ l. over_with (bytes ", #") (bytes " ") [] n (bytes "#" ++ decimal m) ++ l) (over_is m (bytes "cancelled")) ∙ ap (λ l. l ++ over_words m (bytes "cancelled")) (over_is n (bytes "#" ++ decimal m))
seen_is s (Passed n m false) = ap (λ l. l ++ []) (over_is n (bytes "#" ++ decimal m))
seen_is s (Cancelled n) = over_is n (bytes "cancelled")

-- a run-on's steps, and what was seen after them
pub shown_put : (n : ℕ) {seen o a b : List ℕ} {at i r : ℕ} → Appended o a at i (steps_words n (bytes "seen")) → Appended a b i r seen → Appended o b at r (steps_words n (bytes "seen" ++ seen))
shown_put n {seen} p q = appended_as (append_assoc (decimal n) (bytes " steps, " ++ bytes "seen") seen) (appended_on p q)

-- ── lists: the words of the numbers before the place i stand
module _ (words : ℕ → List ℕ) where
  pub none_put : (o : List ℕ) (at : ℕ) → Appended o o at at (each_words words [])
  unfolding each_words
  none_put o at = record { ends = omega arith; front = sym (append-nil (take at o)); long = refl }

  each_on : (l : List ℕ) (n : ℕ) → each_words words (l ++ (n ∷ [])) ≡ each_words words l ++ words n
  unfolding each_words
  each_on [] n = append-nil (words n)
  each_on (x ∷ l) n = ap (λ y. words x ++ y) (each_on l n) ∙ sym (append_assoc (words x) (each_words words l) (words n))

  pub one_put : {old mid new : List ℕ} {at to r : ℕ} (l : List ℕ) (i : ℕ) → i < length l → Appended old mid at to (each_words words (take i l)) → Appended mid new to r (words (get_or l i 0))
      → Appended old new at r (each_words words (take (i + 1) l))
  one_put l i h p q = appended_as (sym (ap (each_words words) (ap (λ k. take k l) (add-one i) ∙ take-suc l i 0 h) ∙ each_on (take i l) (get_or l i 0))) (appended_on p q)
