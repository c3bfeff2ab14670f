-- Rules that make a process: spawn, and try, whose handler waits.
use Rattle.std.specs.Prelude.{◌≡◌, ◌≢◌, List, [], ◌∷◌, ◌++◌, Bool, length, set}
use Rattle.std.proofs.Common.{sym, ◌∙◌, ap, ⊎_elim, arith, length-set}
use Rattle.std.proofs.Math.Path.{subst}
use Rattle.std.proofs.Math.Option.{some, none, map, map-eq-some_iff, none-ne-some, some-injective}
use Rattle.std.proofs.Math.Bool.{So, not}
use Prim.Native.Nat.{ℕ, suc, ◌≤◌, ◌<◌}
use Rattle.notation.specs.Limits.{process_places, channel_places, held_limit}
use Rattle.notation.specs.Tree.{Name, Located, Ty, Proc, spawn, try, plain}
use Rattle.calculus.specs.Named.{In, kept}
use Rattle.calculus.specs.Types.{provided, used}
use Rattle.calculus.specs.Program.{slot, Program}
use Rattle.calculus.specs.Mentions.{mentions, half_mentions, spawn_takes, spawn_leaves, try_takes}
use Rattle.calculus.specs.OneType.{OneType}
use Rattle.calculus.specs.Typing.{Typed, bringing}
use Rattle.calculus.specs.Configuration.{End, end, running, waiting, Process, process, Config, Stands, with_processes, fresh_channel, moved_up, relinked, inserted, linked_by, goes_on}
use Rattle.calculus.specs.WellFormed.{context_of}
use Rattle.theory_derivations.specs.Mentioned.{mentions_iff, exactly_one_iff}
use Rattle.theory_derivations.specs.Halves.{SpawnHalves, TryHalves, spawn_iff, try_iff}
use Rattle.theory_ends.specs.Lists.{length_inserted, found_below, below_found}
use Rattle.theory_derivations.specs.Named.{names_in}
use Rattle.theory_ends.specs.Contexts.{context_names, context_kept, context_append, context_length, absent_held}
use Rattle.theory_preservation.specs.Mates.{put}
use Rattle.theory_preservation.specs.Roster.{channel_key, Has, Good}
use Rattle.theory_preservation.specs.Places.{Shows, shows_set, shows_in, id_in, id_in_low, id_in_new, relinked_in, up_below}
use Rattle.theory_preservation.specs.FarEnds.{fresh_unheld}
use Rattle.theory_preservation.specs.Witness.{Tip}
use Rattle.theory_preservation.specs.Growing
use Rattle.theory_preservation.specs.Invariant.{Inv, at_roster}

-- a half with the new channel, as typing sees it
pub half_context_lem : (t : Name → Bool) (l : List (Name × End)) (n : Name) (e : End) → context_of (kept t l ++ ((n, e) ∷ [])) ≡ bringing n (slot e.side e.type) (kept t (context_of l))
half_context_lem t l n e = context_append (kept t l) ((n, e) ∷ []) ∙ ap (λ G. G ++ ((n, slot e.side e.type) ∷ [])) (sym (context_kept t l))

module _ {p : Program} {C : Config} (I : Inv p C) {i : ℕ} {q : Process} (here : Stands C i q) where
  inside : i < length C.processes
  inside = found_below C.processes i here.there

  -- the identity `next` is nobody's
  new_id : (j : ℕ) → j < length C.processes → I.id j ≢ I.next
  new_id j h e =
      let x = below_found C.processes j h in
      let b = (I.good.placed (I.id j) (relinked I.id x.0) (I.shows.there j x.0 x.1)).1 in omega arith

  pub spawn_keeps : {x : Located} {A : Ty Located} {P Q : Proc} {k : ℕ} → q.doing ≡ running (spawn x A P Q) → length C.processes < process_places → fresh_channel C ≡ some k
      → Typed p (context_of q.held) (spawn x A P Q)
      → Inv p (with_processes
      (inserted i (process (running P) (spawn_takes x.name P q.held ++ ((x.name, end provided k (plain A)) ∷ [])) none)
      (set C.processes i (goes_on q Q (spawn_leaves x.name P q.held ++ ((x.name, end used k (plain A)) ∷ [])))))
      C)
  unfolding spawn_takes spawn_leaves
  spawn_keeps {x} {A} {P} {Q} {k} w lt e z = record {
    id = id_in s₁ i I.next;
    roster = put I.next (some made) (put (I.id i) (some (relinked I.id maker)) I.roster);
    next = suc I.next;
    shows = shows_in s₁ i I.next (omega (arith, inside, len₁)) (λ j h. new_id j (omega (arith, len₁))) made (λ h z. absurd (none-ne-some h z));
    good = Growing.spawn_good I.good (I.id i) (relinked I.id q) (at_roster I i q here.there) w t n (plain A) k fresh.1 fresh.0 (absent_held n q.held halves.1.0.0.new) P Q
        (room t halves.1.0.0.room) (room (λ m. not (t m)) halves.1.0.1.room) (subst (λ G. Typed p G P) (sym (half_context_lem t q.held n (end provided k (plain A)))) halves.1.1.0)
        (subst (λ G. Typed p G Q) (sym (half_context_lem (λ m. not (t m)) q.held n (end used k (plain A)))) halves.1.1.1);
    places = let c = length_inserted i made (set C.processes i maker) in omega (arith, len₁);
    numbers = I.numbers;
  }
    where
      halves : SpawnHalves (OneType p) p (context_of q.held) x A P Q
      halves = spawn_iff.1 z

      n : Name
      n = x.name

      t : Name → Bool
      t = half_mentions x.name P

      room : (t : Name → Bool) → length (kept t (context_of q.held)) < held_limit → length (kept t q.held) < held_limit
      room t h = subst (λ m. m < held_limit) (ap length (context_kept t q.held) ∙ context_length (kept t q.held)) h

      maker : Process
      maker = goes_on q Q (kept (λ m. not (t m)) q.held ++ ((n, end used k (plain A)) ∷ []))

      made : Process
      made = process (running P) (kept t q.held ++ ((n, end provided k (plain A)) ∷ [])) none

      len₁ : length (set C.processes i maker) ≡ length C.processes
      len₁ = length-set C.processes i maker

      s₁ : Shows I.id (set C.processes i maker) (put (I.id i) (some (relinked I.id maker)) I.roster)
      s₁ = shows_set I.shows i inside maker (I.shows.within i q here.there)

      fresh : (k < channel_places) × ((v : ℕ) (t : Tip) → Has I.roster C.outside v t → t.0.0 ≢ channel_key k)
      fresh = fresh_unheld C I.shows k e

  pub try_keeps : {o : ℕ} {P Q : Proc} → q.doing ≡ running (try o P Q) → length C.processes < process_places → Typed p (context_of q.held) (try o P Q)
      → Inv p (with_processes
      (set (inserted i (process (waiting Q) (try_takes Q q.held) (map (moved_up i) q.link)) C.processes) i
      (linked_by (some (suc i)) (goes_on q P (try_takes P q.held))))
      C)
  unfolding try_takes
  try_keeps {P = P} {Q = Q} w lt z = record {
    id = f;
    roster = put (f i) (some (relinked f tryer)) (put I.next (some (relinked f waiter)) I.roster);
    next = suc I.next;
    shows = shows_set s₁ i (omega (arith, inside, len₁)) tryer (λ h z. let y = some-injective _ _ z in omega (arith, inside, len₁));
    good = subst (λ S. Good p S C.outside C.given (suc I.next)) same
        (Growing.try_good I.good (I.id i) (relinked I.id q) (at_roster I i q here.there) w (mentions P) (mentions Q) disjoint P Q
        (subst (λ G. Typed p G P) (context_kept (mentions P) q.held) halves.1.0) (subst (λ G. Typed p G Q) (context_kept (mentions Q) q.held) halves.1.1));
    places = subst (λ n. n ≤ process_places) (sym (length-set (inserted i waiter C.processes) i tryer ∙ len₁)) lt;
    numbers = I.numbers;
  }
    where
      halves : TryHalves (OneType p) p (context_of q.held) P Q
      halves = try_iff.1 z

      waiter : Process
      waiter = process (waiting Q) (kept (mentions Q) q.held) (map (moved_up i) q.link)

      tryer : Process
      tryer = linked_by (some (suc i)) (goes_on q P (kept (mentions P) q.held))

      f : ℕ → ℕ
      f = id_in I.shows i I.next

      len₁ : length (inserted i waiter C.processes) ≡ suc (length C.processes)
      len₁ = length_inserted i waiter C.processes

      up_within : (h : ℕ) → map (moved_up i) q.link ≡ some h → h < suc (length C.processes)
      up_within h z =
          let x = (map-eq-some_iff {B = ℕ} (moved_up i) q.link).0 z in
          subst (λ h. h < suc (length C.processes)) x.2 (up_below I.shows i x.0 (I.shows.within i q here.there x.0 x.1))

      s₁ : Shows f (inserted i waiter C.processes) (put I.next (some (relinked f waiter)) I.roster)
      s₁ = shows_in I.shows i I.next inside new_id waiter up_within

      disjoint : (x : Name × End) → In x q.held → So (mentions P x.0) → So (mentions Q x.0) → ⊥
      disjoint x m a c =
          ⊎_elim (λ h. h.1 ((mentions_iff Q x.0).0 c)) (λ h. h.0 ((mentions_iff P x.0).0 a))
          ((exactly_one_iff P Q (context_of q.held)).0 halves.0 x.0 (subst (In x.0) (sym (context_names q.held)) (names_in q.held m)))

      -- the maker's identity is as before, its handler's is the new one
      fi : f i ≡ I.id i
      fi = id_in_low I.shows i I.next

      same : put (I.id i) (some (linked_by (some I.next) (goes_on q P (kept (mentions P) q.held))))
          (put I.next (some (process (waiting Q) (kept (mentions Q) q.held) (map I.id q.link))) I.roster)
          ≡ put (f i) (some (relinked f tryer)) (put I.next (some (relinked f waiter)) I.roster)
      same j =
          put (sym fi j) (some (linked_by (some (sym (id_in_new I.shows i I.next) j)) (goes_on q P (kept (mentions P) q.held))))
          (put I.next (some (process (waiting Q) (kept (mentions Q) q.held) (sym (relinked_in I.shows i I.next q.link) j))) I.roster)
