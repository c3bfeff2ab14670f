-- A process folds up.
use Rattle.std.specs.Prelude.{ℕ, ◌+◌, ◌≡◌}
use Rattle.std.proofs.Common.{sym, ◌∙◌, arith}
use Rattle.std.proofs.Math.Path.{ap, subst}
use mathlib.Core.List.{List, [], ◌∷◌, map}
use Rattle.std.proofs.Math.Option.{some, some-injective, none-ne-some}
use Rattle.std.proofs.Math.ListN.{get_elem?}
use Rattle.calculus.specs.Steps.{parting, leaving, folding_up}
use Rattle.run_words.specs.Lists.{All, remove_at}
use Rattle.run_words.specs.ListLaws.{all_remove}
use Rattle.run_words.specs.Raw.{RawEnd}
use Rattle.run_words.specs.Values.{end_in, held_in}
use Rattle.run_words.specs.Values as values
use Rattle.run_words.specs.declared.records.End.{End as EndWords}
use Rattle.run_words.specs.declared.records.Held.{Held}
use Rattle.run_words.specs.declared.records.Process.{Process as ProcessWords}
use Rattle.check_contexts.specs.Held.{end_is, channels_of, EndIn, HeldIn}
use Rattle.run_alone.specs.declared.outcome.Outcome.{Outcome as OutcomeWords}
use Rattle.run_alone.specs.Run.{config_in, process_as, Carries}
use Rattle.run_alone.specs.Changes.{none_held}
use Rattle.run_alone.specs.Parting.{end_as}

-- what is left of the oldest end
module _ (s w : List ℕ) (h : Held) (e : EndWords) (g : get_elem? (held_in h) 0 ≡ some (end_in e)) (r : Held) (q : held_in r ≡ remove_at 0 (held_in h)) where
  pub oldest : channels_of s w h ≡ end_is s w (end_in e) ∷ channels_of s w r
  unfolding channels_of
  oldest = go (held_in h) g ∙ ap (λ l. end_is s w (end_in e) ∷ map (end_is s w) l) (sym q)
    where
      go : (l : List RawEnd) → get_elem? l 0 ≡ some (end_in e) → map (end_is s w) l ≡ end_is s w (end_in e) ∷ map (end_is s w) (remove_at 0 l)
      go [] z = absurd (none-ne-some _ z)
      go (x ∷ l) z = ap (λ y. end_is s w y ∷ map (end_is s w) l) (some-injective _ _ z)

  pub oldest_held : r.count + 1 ≡ h.count → HeldIn s w h → HeldIn s w r
  oldest_held n t = record { many = omega (arith, t.many); each = subst (All (EndIn s w)) (sym q) (all_remove (EndIn s w) 0 (held_in h) t.each) }

module _ (s w old new : List ℕ) (i : ℕ) (p : ProcessWords) (r : OutcomeWords) where
  pub folds_empty : p.held.count ≡ 0 → Carries s w old new r (leaving (config_in s w old) i (process_as s w p)) → Carries s w old new r (folding_up (config_in s w old) i (process_as s w p) (channels_of s w p.held))
  unfolding folding_up
  folds_empty z c = subst (λ l. Carries s w old new r (folding_up (config_in s w old) i (process_as s w p) l)) (sym (none_held s w p.held z)) c

  pub folds_oldest : (e : EndWords) (h : Held) → get_elem? (held_in p.held) 0 ≡ some (end_in e) → held_in h ≡ remove_at 0 (held_in p.held) → Carries s w old new r (parting (config_in s w old) i (process_as s w (values.folding_up h p)) (end_as s w e))
      → Carries s w old new r (folding_up (config_in s w old) i (process_as s w p) (channels_of s w p.held))
  unfolding folding_up
  folds_oldest e h g q c = subst (λ l. Carries s w old new r (folding_up (config_in s w old) i (process_as s w p) l)) (sym (oldest s w p.held e g h q)) c
