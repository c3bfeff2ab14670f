-- Spawn: a process comes, and a channel between it and its maker.
use Rattle.std.specs.Prelude.{ℕ, ◌≤◌, ◌<◌, ◌≡◌, refl, List, [], ◌∷◌, ◌++◌, Bool, length, set}
use Rattle.std.specs.Prelude.{Option as CodeOption, Some, None}
use Rattle.std.proofs.Common.{sym, ◌∙◌, ap, subst, length-set}
use Rattle.std.proofs.Math.Bool.{true, false}
use Rattle.std.proofs.Math.Option.{Option, some, none}
use Rattle.notation.specs.Limits.{text_limit, process_places, channel_places, held_limit, type_term_limit}
use Rattle.notation.specs.Token.{name_at}
use Rattle.notation.specs.Reader.{name_in}
use Rattle.calculus.specs.Types.{provided, used}
use Rattle.calculus.specs.Mentions.{spawn_takes, spawn_leaves}
use Rattle.calculus.specs.Configuration.{end, running, process, Config, with_processes, replaced, goes_on}
use Rattle.calculus.specs.Configuration as calculus
use Rattle.calculus.specs.Steps.{Outcome, spawned, spawning}
use Rattle.calculus.specs.declared.answers.Seen.TheVariants.{Nothing}
use Rattle.theory_ends.specs.Fresh.{fresh_free}
use Rattle.read_tables.specs.Access.{node_there}
use Rattle.read_tables.specs.Whole.{Tables}
use Rattle.read_tables.specs.Roots.{TypeIn, ProcessIn}
use Rattle.read_tables.specs.Decode.{type_in, process_in}
use Rattle.read_tables.specs.Program.{plain_in}
use Rattle.run_words.specs.Lists.{All}
use Rattle.run_words.specs.Raw.{BoundedEnd, raw_in, Bounded, running_kind}
use Rattle.run_words.specs.Values.{Changed, held_in}
use Rattle.run_words.specs.Values as values
use Rattle.run_words.specs.Operations as raw
use Rattle.run_words.specs.Operations.{found_in}
use Rattle.run_words.specs.DecodeLaws.{decoded_fresh}
use Rattle.run_words.specs.declared.records.Held.{Held}
use Rattle.run_words.specs.declared.records.Process.{Process as ProcessWords}
use Rattle.check_contexts.specs.Held.{channels_of, HeldIn}
use Rattle.check_contexts.specs.Halves.{Takes, HasRoom, has_room, SpawnHalf, held_bounded}
use Rattle.check_contexts.specs.Marks.{ALL}
use Rattle.check_contexts.specs.declared.marks.Marks.{Marks}
use Rattle.check_contexts.specs.declared.halves.Half.TheVariants.{OfSpawn}
use Rattle.run_alone.specs.declared.outcome.Outcome.{Outcome as OutcomeWords}
use Rattle.run_alone.specs.declared.outcome.Outcome.TheVariants.{Carried, Lacking}
use Rattle.run_alone.specs.declared.spawning.SpawnTerm.{SpawnTerm}
use Rattle.run_alone.specs.Run.{config_in, process_as, RunOf, ProcessOf, StandsAt, Becomes, Carries}
use Rattle.run_alone.specs.Changes.{then, stored, came, runs_on, places_after, places_in}
use Rattle.run_alone.specs.Places.{no_place, a_place}

module _ (s w : List ℕ) where
  -- a spawn's numbers are those of the text, and its halves have room for the new channel
  pub record SpawnIn (m : SpawnTerm) (h : Held) : Type 0 where
    pub name : m.name < text_limit
    pub type : TypeIn s w m.node
    pub first : ProcessIn s w m.first
    pub second : ProcessIn s w m.second
    pub taken : length (spawn_takes (name_at s m.name) (process_in s w m.first) (channels_of s w h)) < held_limit
    pub left : length (spawn_leaves (name_at s m.name) (process_in s w m.first) (channels_of s w h)) < held_limit

  -- what the halves hold, each with its end of the new channel k
  pub record Halved (h : Held) (m : SpawnTerm) (k : ℕ) (ours theirs : Held) : Type 0 where
    pub taken : channels_of s w ours ≡ spawn_takes (name_at s m.name) (process_in s w m.first) (channels_of s w h) ++ ((name_at s m.name, end provided k (plain_in s w m.node)) ∷ [])
    pub left : channels_of s w theirs ≡ spawn_leaves (name_at s m.name) (process_in s w m.first) (channels_of s w h) ++ ((name_at s m.name, end used k (plain_in s w m.node)) ∷ [])
    pub ours_fit : HeldIn s w ours
    pub theirs_fit : HeldIn s w theirs

  module _ {m : SpawnTerm} {h : Held} {marks : Marks} (f : SpawnIn m h) (u : HeldIn s w h) (t : Takes s w h (OfSpawn m.name m.first) ALL marks) where
    half_room : (first : Bool) → HasRoom h marks first
    unfolding spawn_takes spawn_leaves
    half_room true = has_room true t u f.taken
    half_room false = has_room false t u f.left

    -- what is asked of each half
    pub half_asked : {k : ℕ} → Tables s w → k < channel_places → (first : Bool)
        → ((h.count ≤ held_limit) × All BoundedEnd (held_in h) × HasRoom h marks first) × ((m.name < text_limit) × (m.node < type_term_limit) × (k < channel_places))
    half_asked g l first = ((u.many, held_bounded u, half_room first), (f.name, node_there s w g m.node f.type, l))

    pub halved : {k : ℕ} {ours theirs : Held} → SpawnHalf h marks m.name m.node true k ours → SpawnHalf h marks m.name m.node false k theirs → Halved h m k ours theirs
    unfolding spawn_takes spawn_leaves
    halved a b = record { taken = a.is t u; left = b.is t u; ours_fit = a.fits t u f.type; theirs_fit = b.fits t u f.type }

  module _ (old : List ℕ) (t : RunOf s w old) (i : ℕ) (p : ProcessWords) (u : StandsAt s w old i p) (m : SpawnTerm) (f : SpawnIn m p.held) (k : ℕ) where
    pub maker_of : (h : Held) → HeldIn s w h → ProcessOf s w (length (raw_in old).processes) (values.running_on m.second h p)
    maker_of h g = runs_on t.tables (values.running_on m.second h p) refl u.is.link f.second g

    module _ (mid : List ℕ) (ours theirs : Held) (a : Halved p.held m k ours theirs)
        (c : Changed old mid (raw.on_processes (λ l. set l i (values.process_in (values.running_on m.second theirs p))) (raw_in old))) (d : Bounded (raw_in mid)) where
      pub maker_stays : Becomes s w old mid (replaced i (process_as s w (values.running_on m.second theirs p)) (config_in s w old))
      maker_stays = stored s w old mid t i (values.running_on m.second theirs p) (maker_of theirs a.theirs_fit) c d

      pub as_before : length (raw_in mid).processes ≡ length (raw_in old).processes
      as_before = places_after maker_stays ∙ length-set (config_in s w old).processes i (process_as s w (values.running_on m.second theirs p)) ∙ places_in s w old

      pub spawned_of : {n : ℕ} → ProcessOf s w n (values.new_process running_kind m.first 0 ours)
      spawned_of = runs_on t.tables (values.new_process running_kind m.first 0 ours) refl tt f.first a.ours_fit

      pub spawns : (new : List ℕ) → Changed mid new (raw.on_processes (raw.inserted i (values.process_in (values.new_process running_kind m.first 0 ours))) (raw_in mid)) → Bounded (raw_in new)
          → Carries s w old new (Carried Nothing) (spawned (config_in s w old) i (process_as s w p) (name_at s m.name) (plain_in s w m.node) (process_in s w m.first) (process_in s w m.second) (some k))
      spawns new q z =
          let C = config_in s w old in
          record {
            is = (
              refl,
              subst (Becomes s w old new) (λ j. with_processes (calculus.inserted i (process (running (process_in s w m.first)) (a.taken j) none) (set C.processes i (goes_on (process_as s w p) (process_in s w m.second) (a.left j)))) C)
                  (then (λ (D : Config). with_processes (calculus.inserted i (process_as s w (values.new_process running_kind m.first 0 ours)) D.processes) D) maker_stays (came s w mid new maker_stays.run i (values.new_process running_kind m.first 0 ours) {n = 0} spawned_of q z)),
            );
          }

  module _ (old : List ℕ) (i : ℕ) (p : ProcessWords) (m : SpawnTerm) where
    abbrev pub spawned_by : Option ℕ → Outcome
    spawned_by o = spawned (config_in s w old) i (process_as s w p) (name_at s m.name) (plain_in s w m.node) (process_in s w m.first) (process_in s w m.second) o

    abbrev pub spawning_by : Outcome
    spawning_by = spawning (config_in s w old) i (process_as s w p) (name_in s m.name) (type_in s w m.node) (process_in s w m.first) (process_in s w m.second)

    module _ {f : CodeOption ℕ} (e : f ≡ found_in (raw.fresh_channel (raw_in old))) where
      -- what was found is what the calculus finds
      fresh : {o : Option ℕ} → f ≡ found_in o → calculus.fresh_channel (config_in s w old) ≡ o
      fresh {o} q = decoded_fresh (name_at s) (plain_in s w) (process_in s w) (raw_in old) ∙ same_found (raw.fresh_channel (raw_in old)) o (sym e ∙ q)
        where
          place : CodeOption ℕ → Option ℕ
          place (Some k) = some k
          place None = none

          back : (o : Option ℕ) → place (found_in o) ≡ o
          back none = refl
          back (some k) = refl

          same_found : (o r : Option ℕ) → found_in o ≡ found_in r → o ≡ r
          same_found o r z = sym (back o) ∙ ap place z ∙ back r

      pub fresh_small : {k : ℕ} → f ≡ Some k → k < channel_places
      fresh_small {k} q = (fresh_free (config_in s w old) (fresh {o = some k} q)).place

      pub no_channel : length (raw_in old).processes < process_places → f ≡ None → Carries s w old old Lacking spawning_by
      unfolding spawning
      no_channel h q = a_place s w old _ h (subst (λ o. Carries s w old old Lacking (spawned_by o)) (sym (fresh {o = none} q)) (record { is = (refl, refl) }))

      pub a_channel : {k : ℕ} {new : List ℕ} {r : OutcomeWords} → length (raw_in old).processes < process_places → f ≡ Some k → Carries s w old new r (spawned_by (some k)) → Carries s w old new r spawning_by
      unfolding spawning
      a_channel {k} {new} {r} h q c = a_place s w old _ h (subst (λ o. Carries s w old new r (spawned_by o)) (sym (fresh {o = some k} q)) c)

    pub no_room : process_places ≤ length (raw_in old).processes → Carries s w old old Lacking spawning_by
    unfolding spawning
    no_room h = no_place s w old _ h
