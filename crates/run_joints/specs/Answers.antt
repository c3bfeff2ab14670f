-- What the code's answers say.
use Rattle.std.specs.Prelude.{ℕ, ◌≡◌, Bool}
use Rattle.notation.specs.Tree.{Name, Ty, Proc}
use Rattle.calculus.specs.Configuration.{Config}
use Rattle.run_words.specs.Raw.{RawConfig}
use Rattle.run_words.specs.Decode.{decoded}

-- the answer is the test's, whatever the names, types and terms are that the numbers stand for
pub record Answers (answer : Bool) (test : Config → Bool) (C : RawConfig) : Type 0 where
  pub is : (name_of : ℕ → Name) (type_of : ℕ → Ty Name) (term_of : ℕ → Proc) → answer ≡ test (decoded name_of type_of term_of C)
