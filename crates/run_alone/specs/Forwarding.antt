-- Forwarding: the two far ends become one channel.
use Rattle.std.specs.Prelude.{ℕ, ◌<◌, ◌≡◌, refl, List, [], ◌∷◌, true, false, cond, length, set}
use Rattle.std.specs.Prelude.{Option, Some, None}
use Rattle.std.proofs.Common.{sym, ◌∙◌, subst, true≢false, arith, length-set}
use Rattle.std.proofs.Math.Path.{ap}
use Rattle.std.proofs.Math.Option.{some}
use Rattle.std.proofs.Math.ListN.{get_elem?}
use Rattle.notation.specs.Limits.{channel_places}
use Rattle.notation.specs.Token.{name_at}
use Rattle.notation.specs.Reader.{name_in}
use Rattle.calculus.specs.Types.{Side, other}
use Rattle.calculus.specs.Configuration.{End, end, Process, Config, with_outside, replaced, folds_up, holding, far_end}
use Rattle.calculus.specs.Configuration as calculus
use Rattle.calculus.specs.Steps.{Outcome, emptied, moved_end, far_moved, joined_to, joining, forwarding, parting}
use Rattle.calculus.specs.declared.answers.Seen.TheVariants.{Nothing}
use Rattle.read_tables.specs.Decode.{process_in}
use Rattle.read_tables.specs.Program.{plain_in}
use Rattle.run_words.specs.Lists.{All}
use Rattle.run_words.specs.ListLaws.{all_at, all_set, map_set}
use Rattle.run_words.specs.Raw.{RawEnd, raw_in, side_of, Bounded}
use Rattle.run_words.specs.Values.{Changed, end_in, held_in, held_length}
use Rattle.run_words.specs.Values as values
use Rattle.run_words.specs.Operations as raw
use Rattle.run_words.specs.Operations.{is_end, held_at, was_given_up}
use Rattle.run_words.specs.SearchLaws.{First, here, later, first_here, far_process, holder_place, holder_position, holds_here, holds_held}
use Rattle.run_words.specs.Decode.{decoded_process}
use Rattle.run_words.specs.DecodeLaws.{FarAs, at_process, at_outside, given_up, decoded_far, decoded_far_process}
use Rattle.run_words.specs.declared.records.End.{End as EndWords}
use Rattle.run_words.specs.declared.records.Held.{Held}
use Rattle.run_words.specs.declared.records.Process.{Process as ProcessWords}
use Rattle.run_words.specs.declared.records.Far.{Far}
use Rattle.run_words.specs.declared.records.Far.TheVariants as far
use Rattle.check_contexts.specs.Held.{end_is, ends_in, channels_of, EndIn, HeldIn, Sees}
use Rattle.run_alone.specs.declared.outcome.Outcome.{Outcome as OutcomeWords}
use Rattle.run_alone.specs.declared.outcome.Outcome.TheVariants.{Carried, NotOpen}
use Rattle.run_alone.specs.Run.{config_in, process_as, RunOf, ProcessOf, StandsAt, Becomes, Carries}
use Rattle.run_alone.specs.Changes.{then, stored, rerouted, places_after, places_in}
use Rattle.run_alone.specs.Parting.{end_as, folds, held_none, held_some}

-- r is p, empty
pub record Empties (p r : ProcessWords) : Type 0 where
  pub is : (s w : List ℕ) → process_as s w r ≡ emptied (process_as s w p)
  pub fits : (s w : List ℕ) (n : ℕ) → ProcessOf s w n p → ProcessOf s w n r

pub empties : (p : ProcessWords) (h : Held) → held_in h ≡ [] → h.count ≡ 0 → Empties p (values.folding_up h p)
unfolding channels_of
empties p h e z = record {
  is = λ s w. ap (λ l. folds_up (process_as s w p) (ends_in s w l)) e;
  fits = λ s w n t. folds s w p h t (record { many = omega arith; each = subst (All (EndIn s w)) (sym e) tt });
}

-- the same end on another channel
abbrev pub onto : ℕ → EndWords → EndWords
onto channel e = record { name = e.name; side = e.side; node = e.node; channel = channel }

moved_there : (s w : List ℕ) (k : ℕ) (a : Side) (m : ℕ) {l : List RawEnd} {j : ℕ} {e : RawEnd} → First (is_end k a) l j e
    → set (ends_in s w l) j (name_at s e.name, end e.side m (plain_in s w e.node)) ≡ moved_end k a m (ends_in s w l)
unfolding moved_end
moved_there s w k a m (here {x} {l} r) =
    sym (ap (λ t. cond t ((name_at s x.name, end x.side m (plain_in s w x.node)) ∷ ends_in s w l) (end_is s w x ∷ moved_end k a m (ends_in s w l))) r)
moved_there s w k a m (later {x} {y} {l} r h) =
    ap (◌∷◌ (end_is s w y)) (moved_there s w k a m h)
    ∙ sym (ap (λ t. cond t ((name_at s y.name, end y.side m (plain_in s w y.node)) ∷ ends_in s w l) (end_is s w y ∷ moved_end k a m (ends_in s w l))) r)

-- what becomes of the configuration where the far end of e is at a process
abbrev pub moved_over : Config → ℕ → Process → End → End → calculus.Far → Config
moved_over C i Q e d (calculus.at_process h) = replaced h.place (far_moved e d h.process) (replaced i Q C)
moved_over C i Q e d (calculus.at_outside n) = C
moved_over C i Q e d calculus.given_up = C

module _ (s w old : List ℕ) (e : EndWords) where
  abbrev pub far_raw : Far
  far_raw = raw.far_end (raw_in old) e.channel (side_of e.side)

  abbrev pub far_of : calculus.Far
  far_of = far_end (config_in s w old) (end_as s w e)

  pub far_as : (f : Far) → f ≡ far_raw → FarAs (name_at s) (plain_in s w) (process_in s w) (raw_in old) f far_of
  far_as f q = subst (λ (x : Far). FarAs (name_at s) (plain_in s w) (process_in s w) (raw_in old) x far_of) (sym q) (decoded_far (name_at s) (plain_in s w) (process_in s w) (raw_in old) e.channel (side_of e.side) (plain_in s w e.node))

  module _ (j k : ℕ) (f : far_raw ≡ far.Process j k) where
    pub far_place : j < length (raw_in old).processes
    far_place = holder_place e.channel (other (side_of e.side)) (raw_in old).processes j k (far_process (raw_in old) e.channel (side_of e.side) j k f)

    module _ (r : ProcessWords) (g : get_elem? (raw_in old).processes j ≡ some (values.process_in r)) where
      pub far_position : k < r.held.count
      far_position = omega (arith, holder_position e.channel (other (side_of e.side)) (raw_in old).processes j k (far_process (raw_in old) e.channel (side_of e.side) j k f) g, held_length r.held)

      module _ (x : EndWords) (a : get_elem? (held_in r.held) k ≡ some (end_in x)) where
        -- the process that holds the far end, and under which name
        pub far_holder : far_of ≡ calculus.at_process (record { place = j; process = process_as s w r; name = name_at s x.name })
        unfolding channels_of
        far_holder = decoded_far_process (name_at s) (plain_in s w) (process_in s w) (raw_in old) e.channel (side_of e.side) (plain_in s w e.node) j k f g a

        far_first : First (is_end e.channel (other (side_of e.side))) (held_in r.held) k (end_in x)
        unfolding held_at
        far_first = first_here (is_end e.channel (other (side_of e.side))) (held_in r.held) k (holds_held e.channel (other (side_of e.side)) (holds_here e.channel (other (side_of e.side)) (raw_in old).processes j k (far_process (raw_in old) e.channel (side_of e.side) j k f) g)) a

        module _ (channel : ℕ) (h : Held) (q : held_in h ≡ set (held_in r.held) k (end_in (onto channel x))) where
          pub far_moved_lem : channels_of s w h ≡ moved_end e.channel (other (side_of e.side)) channel (channels_of s w r.held)
          unfolding channels_of
          far_moved_lem = ap (ends_in s w) q ∙ map_set (end_is s w) (held_in r.held) k (end_in (onto channel x)) ∙ moved_there s w e.channel (other (side_of e.side)) channel far_first

          pub far_held : h.count ≡ r.held.count → HeldIn s w r.held → channel < channel_places → HeldIn s w h
          far_held n t b =
              let o = all_at (EndIn s w) (held_in r.held) k t.each a in
              record {
                many = omega (arith, t.many);
                each = subst (All (EndIn s w)) (sym q) (all_set (EndIn s w) (held_in r.held) k (end_in (onto channel x)) t.each (record { bounds = record { name = o.bounds.name; node = o.bounds.node; channel = b }; type = o.type }));
              }

  -- ── the process q stands at a place, and the far end of e takes the channel of d
  module _ (j k : ℕ) (f : far_raw ≡ far.Process j k) (t : RunOf s w old) (i : ℕ) (q r : ProcessWords) (x d : EndWords) (h : Held) where
    abbrev pub regained : ProcessWords
    regained = values.of_held h r

    module _ (g : StandsAt s w old j r) (a : HeldIn s w h) where
      pub regained_of : ProcessOf s w (length (raw_in old).processes) regained
      regained_of = record { kind = g.is.kind; pointer = g.is.pointer; link = g.is.link; term = g.is.term; held = a }

    module _ (mid : List ℕ) (o : ProcessOf s w (length (raw_in old).processes) q) (c : Changed old mid (raw.on_processes (λ l. set l i (values.process_in q)) (raw_in old))) (b : Bounded (raw_in mid)) where
      pub mid_becomes : Becomes s w old mid (replaced i (process_as s w q) (config_in s w old))
      mid_becomes = stored s w old mid t i q o c b

      pub mid_many : length (raw_in mid).processes ≡ length (raw_in old).processes
      mid_many = places_after mid_becomes ∙ length-set (config_in s w old).processes i (process_as s w q) ∙ places_in s w old

      pub moves_far : (new : List ℕ) → ProcessOf s w (length (raw_in mid).processes) regained → channels_of s w h ≡ moved_end e.channel (other (side_of e.side)) d.channel (channels_of s w r.held)
          → far_of ≡ calculus.at_process (record { place = j; process = process_as s w r; name = name_at s x.name })
          → Changed mid new (raw.on_processes (λ l. set l j (values.process_in regained)) (raw_in mid)) → Bounded (raw_in new) → Becomes s w old new (moved_over (config_in s w old) i (process_as s w q) (end_as s w e) (end_as s w d) far_of)
      moves_far new u m z y v =
          subst (Becomes s w old new)
          (ap (λ l. replaced j (holding l (process_as s w r)) (replaced i (process_as s w q) (config_in s w old))) m
          ∙ sym (ap (moved_over (config_in s w old) i (process_as s w q) (end_as s w e) (end_as s w d)) z))
          (then (replaced j (process_as s w regained)) mid_becomes (stored s w mid new mid_becomes.run j regained u y v))

-- ── the rule
module _ (s w old new : List ℕ) (i : ℕ) (p q : ProcessWords) (e d : EndWords) (z : Empties p q) where
  abbrev joined_by : calculus.Far → Outcome
  joined_by F = joined_to (config_in s w old) i (process_as s w p) (end_as s w e) (end_as s w d) F

  joins_process : {j k : ℕ} {F : calculus.Far} → FarAs (name_at s) (plain_in s w) (process_in s w) (raw_in old) (far.Process j k) F → Becomes s w old new (moved_over (config_in s w old) i (process_as s w q) (end_as s w e) (end_as s w d) F) → Carries s w old new (Carried Nothing) (joined_by F)
  joins_process (at_process {i = j} {p = r} {e = x} g h) b =
      record { is = (refl, subst (λ Q. Becomes s w old new (replaced j (far_moved (end_as s w e) (end_as s w d) (decoded_process (name_at s) (plain_in s w) (process_in s w) r)) (replaced i Q (config_in s w old)))) (z.is s w) b) }

  pub joined_process : (j k : ℕ) → far.Process j k ≡ far_raw s w old e → Becomes s w old new (moved_over (config_in s w old) i (process_as s w q) (end_as s w e) (end_as s w d) (far_of s w old e)) → Carries s w old new (Carried Nothing) (joined_by (far_of s w old e))
  joined_process j k f b = joins_process (far_as s w old e (far.Process j k) f) b

  joins_outside : {k : ℕ} {F : calculus.Far} → FarAs (name_at s) (plain_in s w) (process_in s w) (raw_in old) (far.Outside k) F
      → Becomes s w old new (with_outside (calculus.moved_outside e.channel d.channel (config_in s w old).outside) (replaced i (process_as s w q) (config_in s w old))) → Carries s w old new (Carried Nothing) (joined_by F)
  joins_outside (at_outside g) b =
      record { is = (refl, subst (λ Q. Becomes s w old new (with_outside (calculus.moved_outside e.channel d.channel (config_in s w old).outside) (replaced i Q (config_in s w old)))) (z.is s w) b) }

  pub joined_outside : (mid : List ℕ) (k : ℕ) → far.Outside k ≡ far_raw s w old e → Becomes s w old mid (replaced i (process_as s w q) (config_in s w old)) → Changed mid new (raw.on_outside (raw.changed_outside e.channel (raw.rerouted d.channel)) (raw_in mid)) → Bounded (raw_in new)
      → Carries s w old new (Carried Nothing) (joined_by (far_of s w old e))
  joined_outside mid k f b c l =
      joins_outside (far_as s w old e (far.Outside k) f)
      (then (λ (D : Config). with_outside (calculus.moved_outside e.channel d.channel D.outside) D) b (rerouted s w mid new b.run e.channel d.channel c l))

  joins_nobody : {F : calculus.Far} → FarAs (name_at s) (plain_in s w) (process_in s w) (raw_in old) far.GivenUp F → Becomes s w old new (replaced i (process_as s w q) (config_in s w old)) → Carries s w old new (Carried Nothing) (joined_by F)
  joins_nobody given_up b = record { is = (refl, subst (λ Q. Becomes s w old new (replaced i Q (config_in s w old))) (z.is s w) b) }

  pub joined_nobody : far.GivenUp ≡ far_raw s w old e → Becomes s w old new (replaced i (process_as s w q) (config_in s w old)) → Carries s w old new (Carried Nothing) (joined_by (far_of s w old e))
  joined_nobody f b = joins_nobody (far_as s w old e far.GivenUp f) b

module _ (s w old : List ℕ) (i : ℕ) (p : ProcessWords) (x c : ℕ) where
  abbrev forwarding_by : Outcome
  forwarding_by = forwarding (config_in s w old) i (process_as s w p) (name_in s x) (name_in s c)

  module _ {f : Option EndWords} (a : Sees s p.held x f) where
    pub no_provided : f ≡ None → Carries s w old old NotOpen forwarding_by
    unfolding forwarding
    no_provided q = held_none a _ q

    module _ {e : EndWords} (m : f ≡ Some e) {g : Option EndWords} (b : Sees s p.held c g) where
      pub no_used : g ≡ None → Carries s w old old NotOpen forwarding_by
      unfolding forwarding
      no_used q = held_some a _ m (held_none b _ q)

      module _ {d : EndWords} (n : g ≡ Some d) {new : List ℕ} {r : OutcomeWords} where
        forwards : Carries s w old new r (joining (config_in s w old) i (process_as s w p) (end_as s w e) (end_as s w d) (far_of s w old d)) → Carries s w old new r forwarding_by
        unfolding forwarding
        forwards k = held_some a _ m (held_some b _ n k)

        joined_far : (y : Far) {F : calculus.Far} → FarAs (name_at s) (plain_in s w) (process_in s w) (raw_in old) y F → was_given_up y ≡ false → Carries s w old new r (joined_to (config_in s w old) i (process_as s w p) (end_as s w e) (end_as s w d) (far_of s w old e))
            → Carries s w old new r (joining (config_in s w old) i (process_as s w p) (end_as s w e) (end_as s w d) F)
        joined_far (far.Process j l) (at_process g h) z k = k
        joined_far (far.Outside j) (at_outside g) z k = k
        joined_far far.GivenUp given_up z k = absurd (true≢false z)

        pub forwards_joined : (y : Far) → y ≡ far_raw s w old d → was_given_up y ≡ false → Carries s w old new r (joined_to (config_in s w old) i (process_as s w p) (end_as s w e) (end_as s w d) (far_of s w old e)) → Carries s w old new r forwarding_by
        forwards_joined y q z k = forwards (joined_far y (far_as s w old d y q) z k)

        parted_far : (y : Far) {F : calculus.Far} → FarAs (name_at s) (plain_in s w) (process_in s w) (raw_in old) y F → was_given_up y ≡ true → Carries s w old new r (parting (config_in s w old) i (emptied (process_as s w p)) (end_as s w e))
            → Carries s w old new r (joining (config_in s w old) i (process_as s w p) (end_as s w e) (end_as s w d) F)
        parted_far (far.Process j l) (at_process g h) z k = absurd (true≢false (sym z))
        parted_far (far.Outside j) (at_outside g) z k = absurd (true≢false (sym z))
        parted_far far.GivenUp given_up z k = k

        pub forwards_parted : (y : Far) (q : ProcessWords) → y ≡ far_raw s w old d → was_given_up y ≡ true → Empties p q → Carries s w old new r (parting (config_in s w old) i (process_as s w q) (end_as s w e)) → Carries s w old new r forwarding_by
        forwards_parted y q o z u k = forwards (parted_far y (far_as s w old d y o) z (subst (λ Q. Carries s w old new r (parting (config_in s w old) i Q (end_as s w e))) (u.is s w) k))
