-- The words that a log of calls has for an answer. s is the text.
use Rattle.std.specs.Prelude.{ℕ, zero, suc, ◌+◌, List, [], ◌∷◌, ◌++◌, Bool, true, false, ◌&&◌, leb, Ok, Err}
use Rattle.notation.specs.Bytes.{bytes}
use Rattle.notation.specs.Refusals.{OrRefusal}
use Rattle.notation.specs.Token.{name_at}
use Rattle.calculus.specs.Machine.{Answer, started, stepped, ran_on, reported, surveyed, name_given}
use Rattle.calculus.specs.Printed.{decimal}
use Rattle.calculus.specs.declared.answers.Seen.{Seen}
use Rattle.calculus.specs.declared.answers.Seen.TheVariants.{Nothing, Label, Close, Passed, Cancelled}
use Rattle.calculus.specs.declared.answers.Stepped.{Stepped}
use Rattle.calculus.specs.declared.answers.Stepped.TheVariants as Steps
use Rattle.calculus.specs.declared.answers.RanOn.{RanOn}
use Rattle.calculus.specs.declared.answers.RanOn.TheVariants as Runs

-- ── a refusal, with its offset where it has one: "0 for 1 and from 16 on"
abbrev pub has_offset : ℕ → Bool
has_offset n = leb 2 n && leb n 15

abbrev pub offset_words : Bool → ℕ → List ℕ
offset_words true at = bytes " at " ++ decimal at
offset_words false at = []

unfoldable pub refused_words : ℕ → ℕ → List ℕ
refused_words n at = bytes "refused " ++ (decimal n ++ offset_words (has_offset n) at)

-- ── what was seen, if anything: the channel, and what came over it
abbrev pub over_words : ℕ → List ℕ → List ℕ
over_words n what = bytes ", #" ++ (decimal n ++ (bytes " " ++ what))

-- a passed channel that was given up already
abbrev pub gone_words : ℕ → Bool → List ℕ
gone_words m true = over_words m (bytes "cancelled")
gone_words m false = []

unfoldable pub seen_words : List ℕ → Seen → List ℕ
seen_words s Nothing = []
seen_words s (Label n at) = over_words n (bytes "'" ++ name_at s (at + 1))
seen_words s (Close n) = over_words n (bytes "()")
seen_words s (Passed n m gone) = over_words n (bytes "#" ++ decimal m) ++ gone_words m gone
seen_words s (Cancelled n) = over_words n (bytes "cancelled")

-- ── the answers
unfoldable pub started_words : OrRefusal (Unit {0}) → List ℕ
started_words (Ok x) = bytes "started"
started_words (Err e) = refused_words e.number e.at

unfoldable pub stepped_words : List ℕ → OrRefusal Stepped → List ℕ
stepped_words s (Ok (Steps.Carried seen)) = bytes "carried out" ++ seen_words s seen
stepped_words s (Ok Steps.Uncaught) = bytes "uncaught"
stepped_words s (Err e) = refused_words e.number e.at

abbrev pub steps_words : ℕ → List ℕ → List ℕ
steps_words steps how = decimal steps ++ (bytes " steps, " ++ how)

unfoldable pub ran_on_words : List ℕ → OrRefusal RanOn → List ℕ
ran_on_words s (Ok (Runs.Shown seen steps)) = steps_words steps (bytes "seen" ++ seen_words s seen)
ran_on_words s (Ok (Runs.Done steps)) = steps_words steps (bytes "done")
ran_on_words s (Ok (Runs.Full steps)) = steps_words steps (bytes "full")
ran_on_words s (Ok (Runs.Stopped steps)) = steps_words steps (bytes "stopped")
ran_on_words s (Ok (Runs.Uncaught steps)) = steps_words steps (bytes "uncaught")
ran_on_words s (Err e) = refused_words e.number e.at

-- the words of each number, one after another
unfoldable pub each_words : (ℕ → List ℕ) → List ℕ → List ℕ
each_words words [] = []
each_words words (n ∷ l) = words n ++ each_words words l

abbrev pub number_word : ℕ → List ℕ
number_word n = bytes " " ++ decimal n

unfoldable pub reported_words : OrRefusal ℕ → List ℕ → List ℕ
reported_words (Ok n) l = bytes "open" ++ each_words number_word l
reported_words (Err e) l = refused_words e.number e.at

-- what the step at a place is
abbrev pub place_word : ℕ → List ℕ
place_word zero = bytes " waits"
place_word (suc zero) = bytes " open"
place_word (suc (suc n)) = bytes " lacks"

unfoldable pub surveyed_words : OrRefusal ℕ → List ℕ → List ℕ
surveyed_words (Ok n) l = decimal n ++ (bytes " processes" ++ each_words place_word l)
surveyed_words (Err e) l = refused_words e.number e.at

unfoldable pub named_words : List ℕ → ℕ → ℕ → List ℕ
named_words part zero at = part
named_words part (suc n) at = refused_words (suc n) at

unfoldable pub answer_words : List ℕ → Answer → List ℕ
answer_words s (started a) = started_words a
answer_words s (stepped a) = stepped_words s a
answer_words s (ran_on a) = ran_on_words s a
answer_words s (reported a l) = reported_words a l
answer_words s (surveyed a l) = surveyed_words a l
answer_words s (name_given part n at) = named_words part n at
