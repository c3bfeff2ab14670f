-- An empty process leaves the list.
use Rattle.std.specs.Prelude.{ℕ, refl, List, false}
use Rattle.calculus.specs.Configuration.{Config, with_processes}
use Rattle.calculus.specs.Configuration as calculus
use Rattle.calculus.specs.Steps.{leaving}
use Rattle.calculus.specs.declared.answers.Seen.TheVariants.{Nothing}
use Rattle.run_words.specs.Raw.{raw_in, link_of, Bounded}
use Rattle.run_words.specs.Values.{Changed}
use Rattle.run_words.specs.Operations as raw
use Rattle.run_words.specs.declared.records.Process.{Process as ProcessWords}
use Rattle.run_alone.specs.declared.outcome.Outcome.TheVariants.{Carried}
use Rattle.run_alone.specs.Run.{config_in, process_as, Becomes, Carries}
use Rattle.run_alone.specs.Changes.{then, left}
use Rattle.run_alone.specs.Handlers.{with_handler}

module _ (s w old mid new : List ℕ) (i : ℕ) (p : ProcessWords) where
  pub leaves : Becomes s w old mid (with_handler false (link_of p.link) (config_in s w old)) → Changed mid new (raw.on_processes (raw.removed i) (raw_in mid)) → Bounded (raw_in new)
      → Carries s w old new (Carried Nothing) (leaving (config_in s w old) i (process_as s w p))
  unfolding leaving
  leaves b c k = record { is = (refl, then (λ (C : Config). with_processes (calculus.removed i C.processes) C) b (left s w mid new b.run i c k)) }
