-- Raise: a process goes on without its handler, or halts the run.
use Rattle.std.specs.Prelude.{ℕ, zero, suc, ◌≡◌, refl, List}
use Rattle.std.proofs.Common.{arith}
use Rattle.calculus.specs.Configuration.{Config, Process, halt}
use Rattle.calculus.specs.Steps.{caught_by, handler_starts, raising}
use Rattle.calculus.specs.declared.answers.Seen.TheVariants.{Nothing}
use Rattle.read_tables.specs.Decode.{process_in}
use Rattle.run_words.specs.Raw.{link_of}
use Rattle.run_words.specs.Values as values
use Rattle.run_words.specs.declared.records.Process.{Process as ProcessWords}
use Rattle.run_alone.specs.declared.outcome.Outcome.{Outcome}
use Rattle.run_alone.specs.declared.outcome.Outcome.TheVariants.{Carried, Uncaught}
use Rattle.run_alone.specs.Run.{config_in, process_as, Becomes, Carries}

-- ── by the word of the link
module _ (s w old new : List ℕ) (C : Config) (i : ℕ) (q : Process) where
  pub caught : (l : ℕ) → (l ≡ 0 → ⊥) → Becomes s w old new (handler_starts i q C) → Carries s w old new (Carried Nothing) (caught_by (link_of l) C i q)
  caught zero z b = absurd (z refl)
  caught (suc h) z b = record { is = (refl, b) }

  pub uncaught : (l : ℕ) → l ≡ 0 → Becomes s w old new (halt (config_in s w old)) → Carries s w old new Uncaught (caught_by (link_of l) C i q)
  uncaught zero z b = record { is = (refl, b) }
  uncaught (suc h) z b = absurd (omega arith)

-- a raise, by the process that goes on
pub raises : (s w old new : List ℕ) (i : ℕ) (p : ProcessWords) (pointer : ℕ) {r : Outcome}
    → Carries s w old new r (caught_by (link_of p.link) (config_in s w old) i (process_as s w (values.running_on pointer p.held p)))
    → Carries s w old new r (raising (config_in s w old) i (process_as s w p) (process_in s w pointer))
unfolding raising
raises s w old new i p pointer c = c
