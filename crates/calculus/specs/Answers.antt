-- For each case of an answer, as the scope asks, a refusal's number (0 where there is none) and values: a refusal's offset, or what is given.
use Rattle.std.specs.Prelude.{ℕ, List, [], ◌∷◌, Bool, true, false, Ok, Err}
use Rattle.notation.specs.Refusals.{OrRefusal}
use Rattle.calculus.specs.declared.answers.Seen.{Seen}
use Rattle.calculus.specs.declared.answers.Seen.TheVariants.{Nothing, Label, Close, Passed, Cancelled}
use Rattle.calculus.specs.declared.answers.Stepped.{Stepped}
use Rattle.calculus.specs.declared.answers.Stepped.TheVariants as Steps
use Rattle.calculus.specs.declared.answers.RanOn.{RanOn}
use Rattle.calculus.specs.declared.answers.RanOn.TheVariants as Runs

pub record Told : Type 0 where
  pub refusal : ℕ
  pub values : List ℕ

abbrev pub refused_as : ℕ → ℕ → Told
refused_as n at = record { refusal = n; values = at ∷ [] }

abbrev pub given_as : List ℕ → Told
given_as values = record { refusal = 0; values = values }

abbrev pub as_number : Bool → ℕ
as_number true = 1
as_number false = 0

-- what was seen: its kind, the outside channel's number, and what came over it
unfoldable pub seen_values : Seen → List ℕ
seen_values Nothing = 0 ∷ []
seen_values (Label n at) = 1 ∷ n ∷ at ∷ []
seen_values (Close n) = 2 ∷ n ∷ []
seen_values (Passed n m gone) = 3 ∷ n ∷ m ∷ as_number gone ∷ []
seen_values (Cancelled n) = 4 ∷ n ∷ []

unfoldable pub started_as : OrRefusal (Unit {0}) → Told
started_as (Ok x) = given_as []
started_as (Err r) = refused_as r.number r.at

-- what was seen; uncaught is a kind of its own
unfoldable pub stepped_as : OrRefusal Stepped → Told
stepped_as (Ok (Steps.Carried seen)) = given_as (seen_values seen)
stepped_as (Ok Steps.Uncaught) = given_as (5 ∷ [])
stepped_as (Err r) = refused_as r.number r.at

-- how run-on ended, the steps taken, and what was seen
unfoldable pub ran_on_as : OrRefusal RanOn → Told
ran_on_as (Ok (Runs.Shown seen steps)) = given_as (1 ∷ steps ∷ seen_values seen)
ran_on_as (Ok (Runs.Done steps)) = given_as (2 ∷ steps ∷ [])
ran_on_as (Ok (Runs.Full steps)) = given_as (3 ∷ steps ∷ [])
ran_on_as (Ok (Runs.Stopped steps)) = given_as (4 ∷ steps ∷ [])
ran_on_as (Ok (Runs.Uncaught steps)) = given_as (5 ∷ steps ∷ [])
ran_on_as (Err r) = refused_as r.number r.at

-- of a report and of a survey of the places, the count; what they list follows it
unfoldable pub counted_as : OrRefusal ℕ → Told
counted_as (Ok count) = given_as (count ∷ [])
counted_as (Err r) = refused_as r.number r.at
