-- The words of a warning, in the order of include/epass.h, and what its function promises. s is the text; w and old are the scratch and answer words lent, v and new what they are afterwards, k the number asked for, r what is returned.
use Rattle.std.specs.Prelude.{ℕ, ◌+◌, ◌<◌, ◌≤◌, ◌≡◌, refl, List, [], ◌∷◌, ◌++◌, length, get_or, drop, Option, Some, None, Ok, Err}
use Rattle.std.proofs.Common.{sym, ◌∙◌, ap, arith}
use Rattle.notation.specs.Token.{name_at}
use Rattle.notation.proofs.Names.{name_fits}
use Rattle.notation.specs.Refusals.{OrRefusal}
use Rattle.calculus.specs.declared.answers.Missing.{Missing}
use Rattle.interpreter.specs.Warns.{Warns}
use Rattle.call_words.specs.Words.{answer_words, as_word, padded}
use Rattle.call_words.specs.Laying.{Tells}
use Rattle.call_words.specs.Exported.{Untouched, answer_short}

-- a 1, then offset and length of the process's name, of the channel's and of the label, with its apostrophe; or a 0: there is none
unfoldable pub warned_words : List ℕ → OrRefusal (Option Missing) → List ℕ
warned_words s (Ok (Some m)) =
    0 ∷ 1 ∷ as_word m.process ∷ as_word (length (name_at s m.process)) ∷ as_word m.channel ∷ as_word (length (name_at s m.channel)) ∷ as_word m.label ∷ as_word (1 + length (name_at s (m.label + 1))) ∷ []
warned_words s (Ok None) = 0 ∷ 0 ∷ []
warned_words s (Err e) = e.number ∷ as_word e.at ∷ []

-- past the end of the text there is the apostrophe alone
pub label_past : (s : List ℕ) (at : ℕ) → length s ≤ at → 1 ≡ as_word (1 + length (name_at s (at + 1)))
unfolding as_word
label_past s at h = let z : length (name_at s (at + 1)) ≡ 0 = omega (arith, h, name_fits s (at + 1)) in sym (ap (λ n. as_word (1 + n)) z)

pub record Told (s w : List ℕ) (k : ℕ) (old : List ℕ) (r : ℕ) (v new : List ℕ) : Type 0 where
  pub answer : OrRefusal (Option Missing)
  pub warns : Warns s w k answer v
  pub words : new ≡ padded (warned_words s answer) ++ drop answer_words old
  pub number : r ≡ get_or (padded (warned_words s answer)) 0 0

pub record WarningExported (s w : List ℕ) (k : ℕ) (old : List ℕ) (r : ℕ) (v new : List ℕ) : Type 0 where
  pub short : length old < answer_words → Untouched w [] old r v [] new
  pub long : answer_words ≤ length old → Told s w k old r v new

module _ {s w : List ℕ} {k : ℕ} {old : List ℕ} where
  pub warning_short : length old < answer_words → WarningExported s w k old answer_short w old
  warning_short l = record {
    short = λ _. record { number = refl; scratch = refl; run = refl; answer = refl };
    long = λ h. absurd (omega (arith, l, h));
  }

  pub warning_told : {a : OrRefusal (Option Missing)} {r : ℕ} {v new words : List ℕ} → answer_words ≤ length old → Warns s w k a v → words ≡ padded (warned_words s a) → Tells old new words r → WarningExported s w k old r v new
  warning_told {a} l u e t = record {
    short = λ h. absurd (omega (arith, l, h));
    long = λ _. record { answer = a; warns = u; words = t.is ∙ ap (λ x. x ++ drop answer_words old) e; number = t.first ∙ ap (λ x. get_or x 0 0) e };
  }
