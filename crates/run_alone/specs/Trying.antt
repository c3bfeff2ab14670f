-- Try: a process and its handler come of one.
use Prim.Native.Nat.{ℕ, suc, ◌+◌, ◌≤◌, ◌<◌}
use Rattle.std.specs.Prelude.{◌≡◌, List, [], ◌∷◌, map, length, set}
use Rattle.std.proofs.Math.Path.{refl, ap, subst}
use Rattle.std.proofs.Common.{sym, ◌∙◌}
use Rattle.std.proofs.Math.Bool.{true}
use native.Mathlib.Omega.{arith}
use Rattle.std.proofs.lemmas.List.{length-map}
use Rattle.notation.specs.Limits.{process_places}
use Rattle.calculus.specs.Mentions.{try_takes}
use Rattle.calculus.specs.Configuration.{waiting, Process, process, with_processes, replaced, goes_on, linked_by, moved_up}
use Rattle.calculus.specs.Configuration as calculus
use Rattle.calculus.specs.Steps.{trying}
use Rattle.calculus.specs.declared.answers.Seen.TheVariants.{Nothing}
use Rattle.read_tables.specs.Roots.{ProcessIn}
use Rattle.read_tables.specs.Decode.{process_in}
use Rattle.run_words.specs.ListLaws.{length_insert}
use Rattle.run_words.specs.Raw.{raw_in, link_of, links_below, Bounded, waiting_kind}
use Rattle.run_words.specs.Values.{Changed}
use Rattle.run_words.specs.Values as values
use Rattle.run_words.specs.Operations as raw
use Rattle.run_words.specs.Operations.{moved_word}
use Rattle.run_words.specs.Bounds.{link_moved, raised}
use Rattle.run_words.specs.declared.records.Held.{Held}
use Rattle.run_words.specs.declared.records.Process.{Process as ProcessWords}
use Rattle.check_contexts.specs.Held.{channels_of, HeldIn}
use Rattle.check_contexts.specs.Halves.{Keeps, try_takes_lem}
use Rattle.check_contexts.specs.declared.halves.Half.TheVariants.{OfTry}
use Rattle.run_alone.specs.declared.outcome.Outcome.TheVariants.{Carried, Lacking}
use Rattle.run_alone.specs.Run.{config_in, process_as, RunOf, ProcessOf, StandsAt, Becomes, Carries}
use Rattle.run_alone.specs.Changes.{then, stored, came, runs_on, pointer_small, places_after, places_in, bounded_of}
use Rattle.run_alone.specs.Places.{no_place, a_place}

inserted_many : (i : ℕ) (q : Process) (l : List Process) → length (calculus.inserted i q l) ≡ suc (length l)
unfolding calculus.inserted
inserted_many i q l = length_insert (suc i) q (map (calculus.relinked (moved_up i)) l) ∙ ap suc (length-map l (calculus.relinked (moved_up i)))

module _ (s w : List ℕ) where
  pub record TryHalf (h : Held) (pointer : ℕ) (r : Held) : Type 0 where
    pub is : channels_of s w r ≡ try_takes (process_in s w pointer) (channels_of s w h)
    pub fits : HeldIn s w r

  pub half_tried : {h : Held} {p pointer : ℕ} {r : Held} → p ≡ pointer → Keeps s w h (OfTry p) true r → TryHalf h pointer r
  half_tried {h} {p} {pointer} {r} e k = subst (λ m. TryHalf h m r) e (record { is = try_takes_lem s w h p r k; fits = k.fits })

  module _ (old : List ℕ) (t : RunOf s w old) (i : ℕ) (p : ProcessWords) (u : StandsAt s w old i p) (first second : ℕ) (a : ProcessIn s w first) (b : ProcessIn s w second) where
    abbrev handler : ℕ → Held → ProcessWords
    handler link h = values.new_process waiting_kind second link h

    pub tries_nowhere : process_places ≤ length (raw_in old).processes → Carries s w old old Lacking (trying (config_in s w old) i (process_as s w p) (process_in s w first) (process_in s w second))
    unfolding trying
    tries_nowhere h = no_place s w old _ h

    pub handler_of : (link : ℕ) (h : Held) → link ≡ moved_word true i p.link → HeldIn s w h → ProcessOf s w (suc (length (raw_in old).processes)) (handler link h)
    handler_of link h e f = record {
      kind = omega arith;
      pointer = pointer_small s w second t.tables b;
      link = subst (links_below (suc (length (raw_in old).processes))) (sym (ap link_of e ∙ link_moved true i p.link)) (raised i (length (raw_in old).processes) (values.process_in p ∷ []) (bounded_of s w u.is, tt)).0.link;
      term = λ z. b;
      held = f;
    }

    module _ (mid : List ℕ) (link : ℕ) (ours theirs : Held) (e : link ≡ moved_word true i p.link) (f : TryHalf p.held first ours) (g : TryHalf p.held second theirs)
        (c : Changed old mid (raw.on_processes (raw.inserted i (values.process_in (handler link theirs))) (raw_in old))) (k : Bounded (raw_in mid)) where
      pub handler_came : Becomes s w old mid (with_processes (calculus.inserted i (process_as s w (handler link theirs)) (config_in s w old).processes) (config_in s w old))
      handler_came = came s w old mid t i (handler link theirs) (handler_of link theirs e g.fits) c k

      pub one_more : length (raw_in mid).processes ≡ suc (length (raw_in old).processes)
      one_more = places_after handler_came ∙ inserted_many i (process_as s w (handler link theirs)) (config_in s w old).processes ∙ ap suc (places_in s w old)

      -- the first half goes on, and is linked to the second
      abbrev goes : ℕ → ProcessWords
      goes m = values.of_link m (values.running_on first ours p)

      pub tried_of : (m : ℕ) → m ≡ i + 2 → ProcessOf s w (length (raw_in mid).processes) (goes m)
      tried_of m z = let y : m ≡ suc (suc i) = omega arith in runs_on t.tables (goes m) refl (subst (λ x. links_below (length (raw_in mid).processes) (link_of x)) (sym y) (omega (arith, one_more, u.below))) a f.fits

      pub tries : (new : List ℕ) (m : ℕ) → m ≡ i + 2 → length (raw_in old).processes < process_places → Changed mid new (raw.on_processes (λ l. set l i (values.process_in (goes m))) (raw_in mid)) → Bounded (raw_in new)
          → Carries s w old new (Carried Nothing) (trying (config_in s w old) i (process_as s w p) (process_in s w first) (process_in s w second))
      unfolding trying
      tries new m z n d q =
          let y : m ≡ suc (suc i) = omega arith in
          let C = config_in s w old in
          let e₁ = ap link_of y in
          let e₂ = ap link_of e ∙ link_moved true i p.link in
          a_place s w old _ n
          (record {
            is = (
              refl,
              subst (Becomes s w old new) (λ j. with_processes (set (calculus.inserted i (process (waiting (process_in s w second)) (g.is j) (e₂ j)) C.processes) i (linked_by (e₁ j) (goes_on (process_as s w p) (process_in s w first) (f.is j)))) C)
                  (then (replaced i (process_as s w (goes m))) handler_came (stored s w mid new handler_came.run i (goes m) (tried_of m z) d q)),
            );
          })
