-- Demand 2 of the code, as a statement: calls of the entries, known by their contracts alone, beside the typing rules and the reduction rules.
use Rattle.std.specs.Prelude.{ℕ, ◌≤◌, ◌≡◌, ◌↔◌, ◌⊎◌, List, true, false, length, Ok}
use Rattle.notation.specs.Limits.{scratch_words}
use Rattle.notation.specs.Refusals.{OrRefusal, refuses}
use Rattle.notation.specs.Tree.{Declaration}
use Rattle.calculus.specs.Accepted.{accepted, checked}
use Rattle.calculus.specs.Configuration.{Config, halt}
use Rattle.calculus.specs.Demands.{Derivable, Enough, is_refused}
use Rattle.calculus.specs.Machine.{stepped}
use Rattle.calculus.specs.Program.{Program, program_of}
use Rattle.calculus.specs.Reduces.{Reduces, Halts, Lacks, Open}
use Rattle.calculus.specs.declared.answers.Seen.{Seen}
use Rattle.calculus.specs.declared.answers.Stepped.{Stepped}
use Rattle.calculus.specs.declared.answers.Stepped.TheVariants.{Carried, Uncaught}
use Rattle.theory_refusals.specs.Refusals.{refusal_of}
use Rattle.interpreter.specs.Entries.{EntryCall, config_of, HoldsRun, Leaves, Answers, Steps}

-- a call of step at place i that met the configuration C in the words ws, answered r, and left the words vs
pub record StepsByRules (s : List ℕ) (p : Program) (C : Config) (i : ℕ) (ws vs : List ℕ) (r : OrRefusal Stepped) : Type 0 where
  -- "a step is carried out exactly as the reduction rules say", in a run that has not halted: it answers what they show, and leaves what they leave
  pub carried_out : (seen : Seen) (D : Config) → ((r ≡ Ok (Carried seen)) × Leaves s ws vs D) ↔ ((C.halted ≡ false) × Reduces p C i seen D)
  -- and it answers uncaught, and leaves C halted, exactly where they say that it halts
  pub uncaught : ((r ≡ Ok Uncaught) × Leaves s ws vs (halt C)) ↔ ((C.halted ≡ false) × Halts C i)
  -- an answer that is no refusal is one of these two
  pub taken : is_refused (stepped r) ≡ false → ((seen : Seen) × (D : Config) × (r ≡ Ok (Carried seen)) × Leaves s ws vs D) ⊎ ((r ≡ Ok Uncaught) × Leaves s ws vs (halt C))
  -- "and each step that they open can be chosen": it is refused exactly where it lacks, by 21; any other is carried out, or halts the run
  pub refused : Open p C i → (is_refused (stepped r) ≡ true) ↔ Lacks C i
  pub lacking : Open p C i → Lacks C i → r ≡ refuses 21 0
  pub chosen : Open p C i → ¬ Lacks C i
      → ((seen : Seen) × (D : Config) × Reduces p C i seen D × (r ≡ Ok (Carried seen)) × Leaves s ws vs D) ⊎ (Halts C i × (r ≡ Ok Uncaught) × Leaves s ws vs (halt C))

-- Of every call of an entry, of which nothing is known but its contract.
pub record EntriesDemand2 : Type 0 where
  -- "A script is accepted exactly when the typing rules give it a derivation": it is refused by 2 to 15 exactly where there is none, and scratch passes 1
  pub accepts : (s : List ℕ) (m : EntryCall) → Answers s m
      → ((2 ≤ refusal_of m.answer) × (refusal_of m.answer ≤ 15)) ↔ ((scratch_words ≤ length m.lent.scratch) × (¬ ((ds : List Declaration) × Derivable s ds)))
  -- of an accepted text, and of every run slice that passes 18, reached by a run or not
  pub steps : (s : List ℕ) (ds : List Declaration) → checked s ≡ accepted ds
      → (w ws v vs : List ℕ) (i : ℕ) (r : OrRefusal Stepped) → Steps s w ws i r v vs
      → Enough (length w) (length ws)
      → HoldsRun s ws
      → StepsByRules s (program_of ds) (config_of s ws) i ws vs r
