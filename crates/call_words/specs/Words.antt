-- The words of an answer, in the order of include/epass.h. s is the text, place where the name of the exec line that is asked for stands.
use Rattle.std.specs.Prelude.{ℕ, ◌+◌, ◌-◌, List, [], ◌∷◌, ◌++◌, map, cond, ltb, length, replicate, Ok, Err}
use Rattle.notation.specs.Token.{name_at}
use Rattle.calculus.specs.Answers.{seen_values}
use Rattle.calculus.specs.Demands.{is_refused}
use Rattle.calculus.specs.Machine.{Answer, started, stepped, ran_on, reported, surveyed, name_given}
use Rattle.calculus.specs.declared.answers.Seen.{Seen}
use Rattle.calculus.specs.declared.answers.Seen.TheVariants.{Nothing, Label, Close, Passed, Cancelled}
use Rattle.calculus.specs.declared.answers.Stepped.TheVariants as steps
use Rattle.calculus.specs.declared.answers.RanOn.TheVariants as runs
use Rattle.interpreter.specs.Entries.{answer_as}

-- so many words of an answer are written
abbrev pub answer_words : ℕ
answer_words = 130

-- an offset or a length as a word of 32 bits: the last word stands for all past it. Those of refusals and of exec names are at most 8,192 (`words_told`, Apart.antt); that of a label is at most 33, but no theorem says so.
unfoldable pub as_word : ℕ → ℕ
as_word n = cond (ltb n 4294967295) n 4294967295

-- a seen label's length, with its apostrophe
abbrev pub label_length : List ℕ → Seen → List ℕ
label_length s Nothing = []
label_length s (Label n at) = as_word (1 + length (name_at s (at + 1))) ∷ []
label_length s (Close n) = []
label_length s (Passed n m gone) = []
label_length s (Cancelled n) = []

unfoldable pub seen_words : List ℕ → Seen → List ℕ
seen_words s seen = seen_values seen ++ label_length s seen

-- what follows the values of an answer
abbrev pub more_of : List ℕ → Answer → List ℕ
more_of s (started a) = []
more_of s (stepped (Ok (steps.Carried seen))) = label_length s seen
more_of s (stepped (Ok steps.Uncaught)) = []
more_of s (stepped (Err e)) = []
more_of s (ran_on (Ok (runs.Shown seen t))) = label_length s seen
more_of s (ran_on (Ok (runs.Done t))) = []
more_of s (ran_on (Ok (runs.Full t))) = []
more_of s (ran_on (Ok (runs.Stopped t))) = []
more_of s (ran_on (Ok (runs.Uncaught t))) = []
more_of s (ran_on (Err e)) = []
more_of s (reported a l) = []
more_of s (surveyed a l) = []
more_of s (name_given part n at) = []

-- the values of an answer that is not refused: a name's are its offset and its length, not its bytes
abbrev pub given_of : ℕ → Answer → List ℕ
given_of place (started a) = (answer_as (started a)).values
given_of place (stepped a) = (answer_as (stepped a)).values
given_of place (ran_on a) = (answer_as (ran_on a)).values
given_of place (reported a l) = (answer_as (reported a l)).values
given_of place (surveyed a l) = (answer_as (surveyed a l)).values
given_of place (name_given part n at) = as_word place ∷ as_word (length part) ∷ []

-- those of a refused one: its offset
abbrev pub values_of : ℕ → Answer → List ℕ
values_of place a = cond (is_refused a) (map as_word (answer_as a).values) (given_of place a)

unfoldable pub words_of : List ℕ → ℕ → Answer → List ℕ
words_of s place a = (answer_as a).refusal ∷ (values_of place a ++ more_of s a)

-- with zeros up to n words
abbrev pub filled : ℕ → List ℕ → List ℕ
filled n l = l ++ replicate (n - length l) 0

abbrev pub padded : List ℕ → List ℕ
padded = filled answer_words
