-- What a check says: nothing is at fault, or the refusal's number and its offset.
use Rattle.std.specs.Prelude.{ℕ, List, [], ◌∷◌, Bool, true, false, cond, ltb, Ok, Err}
use Rattle.std.proofs.Math.Option.{Option, some, none}
use Rattle.notation.specs.Refusals.{OrRefusal}

pub data Verdict : Type 0 where
  fine : Verdict
  refused : ℕ → ℕ → Verdict

-- the verdict that an answer of the code stands for
abbrev pub verdict_of : OrRefusal (Unit {0}) → Verdict
verdict_of (Ok x) = fine
verdict_of (Err r) = refused r.number r.at

-- of two verdicts in order, the first that is a refusal
abbrev pub and_then : Verdict → Verdict → Verdict
and_then fine v = v
and_then (refused n at) v = refused n at

-- refusal n at an offset unless the test passes; then the verdict of what follows
abbrev pub demand : ℕ → ℕ → Bool → Verdict → Verdict
demand n at true v = v
demand n at false v = refused n at

-- refusal n at an offset unless there is a thing, which the rest needs
abbrev pub having : {X : Type 0} → ℕ → ℕ → Option X → (X → Verdict) → Verdict
having n at none k = refused n at
having n at (some x) k = k x

-- the lower of two offsets; the lowest of one and more
abbrev pub lower : ℕ → ℕ → ℕ
lower i j = cond (ltb j i) j i

abbrev pub lowest : ℕ → List ℕ → ℕ
lowest i [] = i
lowest i (j ∷ js) = lowest (lower i j) js

-- refusal n at the lowest of the offsets where it applies, if any
unfoldable pub faults : ℕ → List ℕ → Verdict
faults n [] = fine
faults n (i ∷ is) = refused n (lowest i is)
