-- What a well-formed configuration gives its steps: nobody links to a process that does not wait, no two hold one end, and there is room for what is brought in.
use Rattle.std.specs.Prelude.{ℕ, suc, ◌+◌, ◌≤◌, ◌<◌, ◌≡◌, refl, List, [], ◌∷◌, map, Bool, true, false, cond, length}
use Rattle.std.proofs.Common.{sym, ◌∙◌, ap, true≢false, arith}
use mathlib.Core.List.Memᴰ
use Rattle.std.proofs.lemmas.Bool.{false≢true}
use Rattle.std.proofs.Math.Option.{some-injective}
use Rattle.std.proofs.lemmas.List.{length-map}
use Rattle.theory_ends.specs.Contexts.{context_length}
use Rattle.notation.specs.Limits.{held_limit}
use Rattle.notation.specs.Bytes.{same}
use Rattle.notation.specs.Token.{name_at}
use Rattle.notation.specs.Tree.{Name, Proc}
use Rattle.notation.specs.declared.reading.TermNode.{TermNode}
use Rattle.calculus.specs.Program.{Context, Program}
use Rattle.calculus.specs.Typing.{Typed, sends_unit, recvs_unit, sends_channel, recvs_channel, sends_label, recvs_label, forwards, calls, spawns, tries, raises, cancels, empties}
use Rattle.calculus.specs.Configuration.{Doing, running, folding, waiting, Process, Outside}
use Rattle.calculus.specs.Steps.{on_close, on_channel, on_label, Turn, sends, receives, alone, turn, turn_of}
use Rattle.calculus.specs.Reports.{number_borne}
use Rattle.calculus.specs.Named.{In}
use Rattle.calculus.specs.WellFormed.{Rising, context_of, is_waiting, TypedAs, WellFormed}
use Rattle.read_tables.specs.Program.{program_in}
use Rattle.run_words.specs.ListLaws.{all_of, map_at}
use Rattle.run_words.specs.Raw.{raw_in}
use Rattle.run_words.specs.Bounds.{Unlinked}
use Rattle.run_words.specs.Near.{HeldOnce, held_key}
use Rattle.run_words.specs.declared.records.Process.{Process as ProcessWords}
use Rattle.theory_ends.specs.Ends.{one_holder}
use Rattle.theory_ends.specs.Lists.{found_in}
use Rattle.check_contexts.specs.Held.{end_is, channels_of}
use Rattle.run_messages.specs.Kinds.{recv_channel_kind}
use Rattle.run_alone.specs.Run.{config_in, doing_as, process_as, StandsAt}
use Rattle.run_alone.specs.Changes.{channels_many}
use Rattle.run_messages.specs.Messages.{turn_by, heard, Heard}

-- ── a recv of a channel has room for it
abbrev wants_channel : Turn → Bool
wants_channel (sends c m P) = false
wants_channel (receives c (on_close P)) = false
wants_channel (receives c (on_channel x P)) = true
wants_channel (receives c (on_label B)) = false
wants_channel alone = false

heard_wants : (x : Name) (T : Turn) → wants_channel (heard x T) ≡ true → wants_channel T ≡ true
heard_wants x (sends c m P) e = absurd (go (same c.name x) e)
  where
    go : (b : Bool) → wants_channel (cond b (sends c m P) alone) ≡ true → ⊥
    go true e = false≢true e
    go false e = false≢true e
heard_wants x (receives c v) e = go (same c.name x) e
  where
    go : (b : Bool) → wants_channel (cond b (receives c v) alone) ≡ true → wants_channel (receives c v) ≡ true
    go true e = e
    go false e = absurd (false≢true e)
heard_wants x alone e = absurd (false≢true e)

receiver_room : {p : Program} {G : Context} {P : Proc} → Typed p G P → wants_channel (turn P) ≡ true → length G < held_limit
receiver_room (sends_unit a d) e = absurd (false≢true e)
receiver_room (recvs_unit a d) e = absurd (false≢true e)
receiver_room (sends_channel T A t n b a l m d) e = absurd (false≢true e)
receiver_room (recvs_channel T t b a r d) e = r.room
receiver_room (sends_label T A t b a l d) e = absurd (false≢true e)
receiver_room (recvs_label T t b a d) e = absurd (false≢true e)
receiver_room (forwards A B a b c d) e = absurd (false≢true e)
receiver_room (calls s a b c d f) e = absurd (false≢true e)
receiver_room (spawns H K a b c d f g h) e = absurd (false≢true e)
receiver_room (tries H K a b c d f) e = absurd (false≢true e)
receiver_room (raises a) e = absurd (false≢true e)
receiver_room (cancels a b) e = absurd (false≢true e)
receiver_room (empties a) e = absurd (false≢true e)

doing_room : (p : Program) (G : Context) (d : Doing) → TypedAs p G d → wants_channel (turn_of d) ≡ true → length G < held_limit
doing_room p G (running P) (a, t) e = receiver_room t e
doing_room p G folding t e = absurd (false≢true e)
doing_room p G (waiting Q) t e = absurd (false≢true e)

module _ (s w ws : List ℕ) (F : WellFormed (program_in s w) (config_in s w ws)) where
  pub room_to_hear : (j : ℕ) (r : ProcessWords) (x : ℕ) (t : TermNode) → StandsAt s w ws j r → Heard s w x (doing_as s w r.kind r.pointer) t → t.kind ≡ recv_channel_kind → r.held.count < held_limit
  room_to_hear j r x t u g z =
      let e : wants_channel (heard (name_at s x) (turn_of (doing_as s w r.kind r.pointer))) ≡ true = ap wants_channel g.is ∙ ap (λ k. wants_channel (turn_by s w t k)) z in
      let l = doing_room (program_in s w) (context_of (channels_of s w r.held)) (doing_as s w r.kind r.pointer) (F.typed j (process_as s w r) (record { there = u.there })) (heard_wants (name_at s x) (turn_of (doing_as s w r.kind r.pointer)) e) in
      omega (arith, l, context_length (channels_of s w r.held), channels_many s w r.held)

  -- ── fewer outside channels than numbers given
  rising_few : (low top : ℕ) (l : List ℕ) → Rising low l → ((n : ℕ) → In n l → n < top) → low ≤ top → length l + low ≤ top
  rising_few low top [] r b h = omega arith
  rising_few low top (n ∷ l) (a, r) b h =
      let m = b n (Memᴰ.head refl) in
      let k = rising_few (suc n) top l r (λ x i. b x (Memᴰ.tail i)) (omega arith) in
      omega arith

  pub outside_few : length (raw_in ws).outside ≤ (raw_in ws).given
  outside_few =
      let l = (config_in s w ws).outside in
      let b : (n : ℕ) → In n (map (λ (o : Outside). o.number) l) → n < (raw_in ws).given = λ n i. let o = number_borne l n i in omega (arith, (F.outside o.channel o.among).1, o.number) in
      let k = rising_few 0 (raw_in ws).given (map (λ (o : Outside). o.number) l) F.numbers b (omega arith) in
      let z : length l ≡ length (raw_in ws).outside = length-map (raw_in ws).outside _ in
      omega (arith, k, z, length-map l (λ (o : Outside). o.number))

  -- ── no end is held by two processes
  pub held_once : HeldOnce (raw_in ws).processes
  held_once = record {
    one = λ k a i j m n p q f g d e.
        let (x, there, channel, side) = held_key k a p.held m d in
        let (y, yonder, channel', side') = held_key k a q.held n e in
        one_holder F (record { there = map_at _ (raw_in ws).processes i f }) (record { there = map_at _ (raw_in ws).processes j g })
        (found_in _ m (map_at (end_is s w) p.held m there)) (found_in _ n (map_at (end_is s w) q.held n yonder)) (λ v. ((channel ∙ sym channel') v, (side ∙ sym side') v));
  }

  -- ── nobody's link is the place of a process that does not wait
  pub unlinked_here : (i : ℕ) (p : ProcessWords) → StandsAt s w ws i p → is_waiting (doing_as s w p.kind p.pointer) ≡ false → Unlinked i (raw_in ws).processes
  unlinked_here i p u z = all_of _ (raw_in ws).processes (λ k r g e.
      let (q, f, y) = F.links k _ (record { there = map_at _ (raw_in ws).processes k g }) i e in
      true≢false (sym y ∙ ap (λ (x : Process). is_waiting x.doing) (some-injective _ _ (sym f.there ∙ u.there)) ∙ z))
