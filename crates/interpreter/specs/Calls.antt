-- Demands 1 and 3 of the code, as statements: calls of the entries, known by their contracts alone; lists of them beside the plain machine fed with the same calls.
use Rattle.std.specs.Prelude.{ℕ, ◌≤◌, ◌≡◌, ◌≢◌, List, [], ◌∷◌, ◌++◌, map, true, cond, leb, length, take, Ok}
use Rattle.notation.specs.Limits.{run_words}
use Rattle.notation.specs.Tree.{Declaration}
use Rattle.calculus.specs.Accepted.{accepted, checked}
use Rattle.calculus.specs.Configuration.{Config}
use Rattle.calculus.specs.Demands.{is_refused, SafeExchange}
use Rattle.calculus.specs.Machine.{Call, started, respond, idle}
use Rattle.calculus.specs.Program.{Program, program_of}
use Rattle.theory_refusals.specs.Refusals.{refusal_of}
use Rattle.interpreter.specs.Entries.{EntryCall, call_of, config_of, HoldsRun, Answers}

-- ── demand 1: "Whoever calls, with whatever text, buffers, numbers or order of calls, gets an answer or a numbered refusal; a refused step leaves the run as it was."
-- `Answers s m` is the contract of the entry that was called: the very record of its `ensures`, and of a report's the field `answers`.
pub record Demand1 : Type 0 where
  pub numbered : (s : List ℕ) (m : EntryCall) → Answers s m → is_refused m.answer ≡ true → ((1 ≤ refusal_of m.answer) × (refusal_of m.answer ≤ 22)) × (refusal_of m.answer ≢ 14)
  pub unchanged : (s : List ℕ) (m : EntryCall) → Answers s m → is_refused m.answer ≡ true → m.left.run ≡ m.lent.run

-- ── the run between the calls: the first 6,144 words. The slices may be longer or shorter from call to call.
-- a slice of so many words or more begins with the run as it was left
pub record Lent (run ws : List ℕ) : Type 0 where
  pub is : run_words ≤ length ws → take run_words ws ≡ run

-- the run afterwards
abbrev pub left_by : List ℕ → EntryCall → List ℕ
left_by run m = cond (leb run_words (length m.lent.run)) (take run_words m.left.run) run

abbrev pub left_by_all : List ℕ → List EntryCall → List ℕ
left_by_all run [] = run
left_by_all run (m ∷ ms) = left_by_all (left_by run m) ms

-- each call keeps its contract, and is lent the run that the one before left
abbrev pub Linked : List ℕ → List ℕ → List EntryCall → Type 0
Linked s run [] = Unit {0}
Linked s run (m ∷ ms) = Answers s m × Lent run m.lent.run × Linked s (left_by run m) ms

-- ── the plain machine, fed with the calls alone
abbrev pub replayed : List ℕ → Config → List Call → Config
replayed s C [] = C
replayed s C (c ∷ cs) = replayed s (respond s C c).config cs

-- what holds of a call that meets the run `run`, the plain machine being at C
pub record Agrees (s : List ℕ) (p : Program) (C : Config) (run : List ℕ) (m : EntryCall) : Type 0 where
  -- "Answers are compared whole"
  pub answer : m.answer ≡ (respond s C (call_of m)).answer
  -- the run holds the plain machine's configuration
  pub holds : HoldsRun s (left_by run m)
  pub config : config_of s (left_by run m) ≡ (respond s C (call_of m)).config
  -- a forest, joints fewer than processes, one type at both ends of a channel, a step open while a process is left and the run has not halted, also between the steps of a run-on;
  -- a start is refused exactly when its line is missing, a run-on never, an open step exactly when it lacks; a refusal changes nothing; a halted run answers 22 to every step, uncaught to every run-on
  pub plain : SafeExchange p (record { before = C; call = call_of m; after = respond s C (call_of m) })
  pub never18 : refusal_of m.answer ≢ 18

-- "one theorem about every list of calls": at each call m of a list that begins with a start carried out
pub record Demand3 : Type 0 where
  pub agrees : (s : List ℕ) (ds : List Declaration) → checked s ≡ accepted ds
      → (run : List ℕ) (first : EntryCall) (rest : List EntryCall) → first.answer ≡ started (Ok tt) → Linked s run (first ∷ rest)
      → (before : List EntryCall) (m : EntryCall) (after : List EntryCall) → first ∷ rest ≡ before ++ (m ∷ after)
      → Agrees s (program_of ds) (replayed s idle (map call_of before)) (left_by_all run before) m
