-- What the functions for C and Rust promise, one contract for all six. s is the text; w, ws and old are the scratch, run and answer words lent, v, vs and new what they are afterwards, r what is returned.
use Rattle.std.specs.Prelude.{ℕ, ◌<◌, ◌≤◌, ◌≡◌, refl, List, ◌++◌, length}
use Rattle.std.proofs.Common.{◌∙◌, arith}
use Rattle.std.proofs.Math.Path.{ap}
use Rattle.std.proofs.Math.ListN.{get_or, drop}
use Rattle.calculus.specs.Machine.{Answer}
use Rattle.interpreter.specs.Entries.{Request, to_start, to_step, to_run_on, to_report, to_places, to_name, called, answer_as, Answers, exec_offset}
use Rattle.call_words.specs.Words.{answer_words, words_of, padded}
use Rattle.call_words.specs.Laying.{Tells}

-- returned where the answer has too few words
abbrev pub answer_short : ℕ
answer_short = 255

-- then no slice is touched
pub record Untouched (w ws old : List ℕ) (r : ℕ) (v vs new : List ℕ) : Type 0 where
  pub number : r ≡ answer_short
  pub scratch : v ≡ w
  pub run : vs ≡ ws
  pub answer : new ≡ old

-- where the name stands that is asked for
abbrev pub place_of : List ℕ → Request → ℕ
place_of s (to_start line) = 0
place_of s (to_step place) = 0
place_of s (to_run_on budget) = 0
place_of s to_report = 0
place_of s to_places = 0
place_of s (to_name line) = exec_offset s line

-- else the entry's own contract holds of an answer, its words stand first in the lent ones, zeros up to 130 follow, and what lies past them is as it was
pub record Answered (s : List ℕ) (q : Request) (w ws old : List ℕ) (r : ℕ) (v vs new : List ℕ) : Type 0 where
  pub told : Answer
  pub answers : Answers s (called q w ws told v vs)
  pub words : new ≡ padded (words_of s (place_of s q) told) ++ drop answer_words old
  pub number : r ≡ (answer_as told).refusal

pub record Exported (s : List ℕ) (q : Request) (w ws old : List ℕ) (r : ℕ) (v vs new : List ℕ) : Type 0 where
  pub short : length old < answer_words → Untouched w ws old r v vs new
  pub long : answer_words ≤ length old → Answered s q w ws old r v vs new

module _ (s : List ℕ) (q : Request) {w ws old : List ℕ} where
  pub exported_short : length old < answer_words → Exported s q w ws old answer_short w ws old
  exported_short l = record {
    short = λ _. record { number = refl; scratch = refl; run = refl; answer = refl };
    long = λ h. absurd (omega (arith, l, h));
  }

  pub exported : (a : Answer) {r : ℕ} {v vs new words : List ℕ} → answer_words ≤ length old → Answers s (called q w ws a v vs) → words ≡ padded (words_of s (place_of s q) a) → Tells old new words r
      → Exported s q w ws old r v vs new
  unfolding words_of
  exported a l A e t = record {
    short = λ h. absurd (omega (arith, l, h));
    long = λ _. record {
      told = a;
      answers = A;
      words = t.is ∙ ap (λ x. x ++ drop answer_words old) e;
      number = t.first ∙ ap (λ x. get_or x 0 0) e;
    };
  }
