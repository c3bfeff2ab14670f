-- Cancel: a process gives up a channel.
use Rattle.std.specs.Prelude.{ℕ, ◌≡◌, List}
use Rattle.std.specs.Prelude.{Option, Some, None}
use Rattle.std.proofs.Common.{subst}
use Rattle.notation.specs.Reader.{name_in}
use Rattle.calculus.specs.Configuration.{goes_on}
use Rattle.calculus.specs.Steps.{parting, cancelling}
use Rattle.read_tables.specs.Decode.{process_in}
use Rattle.run_words.specs.Values as values
use Rattle.run_words.specs.declared.records.End.{End as EndWords}
use Rattle.run_words.specs.declared.records.Held.{Held}
use Rattle.run_words.specs.declared.records.Process.{Process as ProcessWords}
use Rattle.check_contexts.specs.Held.{Sees, Drops}
use Rattle.run_alone.specs.declared.outcome.Outcome.TheVariants.{NotOpen}
use Rattle.run_alone.specs.declared.outcome.Outcome.{Outcome as OutcomeWords}
use Rattle.run_alone.specs.Run.{config_in, process_as, Carries}
use Rattle.run_alone.specs.Parting.{end_as, held_none, held_some}

module _ (s w old new : List ℕ) (i : ℕ) (p : ProcessWords) (c pointer : ℕ) where
  pub cancels : {f : Option EndWords} {e : EndWords} {h : Held} {r : OutcomeWords} → Sees s p.held c f → f ≡ Some e → Drops s p.held c h
      → Carries s w old new r (parting (config_in s w old) i (process_as s w (values.running_on pointer h p)) (end_as s w e))
      → Carries s w old new r (cancelling (config_in s w old) i (process_as s w p) (name_in s c) (process_in s w pointer))
  unfolding cancelling
  cancels {e = e} {r = r} t q d k = held_some t _ q (subst (λ l. Carries s w old new r (parting (config_in s w old) i (goes_on (process_as s w p) (process_in s w pointer) l) (end_as s w e))) (d.is w) k)

pub cancels_nothing : (s w old : List ℕ) (i : ℕ) (p : ProcessWords) (c pointer : ℕ) {f : Option EndWords} → Sees s p.held c f → f ≡ None → Carries s w old old NotOpen (cancelling (config_in s w old) i (process_as s w p) (name_in s c) (process_in s w pointer))
unfolding cancelling
cancels_nothing s w old i p c pointer t q = held_none t _ q
