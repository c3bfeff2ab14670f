-- A refusal as the code has it: its number and its offset; and an answer that may be one.
use Rattle.std.specs.Prelude.{ℕ, Result, Err}
use Rattle.notation.specs.declared.refusal.Refusal.{Refusal}

abbrev pub refusal : ℕ → ℕ → Refusal
refusal n i = record { number = n; at = i }

abbrev pub OrRefusal : Type 0 → Type 0
OrRefusal A = Result A Refusal

abbrev pub refuses : {A : Type 0} → ℕ → ℕ → OrRefusal A
refuses n i = Err (refusal n i)
