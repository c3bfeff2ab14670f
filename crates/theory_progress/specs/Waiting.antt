-- A rule applies at a place, or its process waits on one joint.
use Rattle.std.specs.Prelude.{ℕ, ◌≤◌, ◌<◌, ◌≡◌, refl, ◌⊎◌, List, [], ◌∷◌, length}
use Rattle.std.proofs.Common.{arith, sym, ◌∙◌, ap, inl, inr, true≢false}
use Rattle.std.proofs.Math.Decide.{dec_lt}
use Rattle.std.proofs.Math.Option.{Option, some, none}
use Rattle.notation.specs.Limits.{process_places, outside_numbers}
use Rattle.notation.specs.Tree.{Name, Located, Ty, Proc, send_channel, spawn, fwd, raise}
use Rattle.calculus.specs.Named.{lookup, In}
use Rattle.calculus.specs.Types.{provided, unfolded, passing, choosing}
use Rattle.calculus.specs.Program.{Program}
use Rattle.calculus.specs.OneType.{OneType}
use Rattle.calculus.specs.Typing.{Typed, sends_unit, recvs_unit, sends_channel, recvs_channel, sends_label, recvs_label, forwards, calls, spawns, tries, raises, cancels, empties}
use Rattle.calculus.specs.Configuration.{End, Doing, running, folding, waiting, Process, Outside, Config, Stands, Holder, Far, at_process, at_outside, given_up, far_end, fresh_channel}
use Rattle.calculus.specs.Steps.{Wanted, receives, turn}
use Rattle.calculus.specs.WellFormed.{context_of, TypedAs, WellFormed}
use Rattle.calculus.specs.Reduces as rule
use Rattle.calculus.specs.Reduces.{Runs, Holds, GivesUp, by_process, by_outside, by_nobody, no_term, no_channel, Sends, close_shows, label_shows, channel_shows, gone_shows, close_lost, label_lost, channel_lost, its_own, Reduces, communicates, joins, joins_outside, joins_nobody, nobody_joins, unanswered, folds, leaves, nobody_catches, Lacks, no_number, spawn_no_place, spawn_no_channel, try_no_place, Applies}
use Rattle.calculus.specs.declared.answers.Seen.{Seen}
use Rattle.theory_derivations.specs.OneType.{one_sym}
use Rattle.theory_derivations.specs.Named.{lookup_in, held_iff}
use Rattle.theory_ends.specs.Contexts.{acts, held_plain}
use Rattle.theory_ends.specs.Ends.{entry_in_ends, outside_in_ends}
use Rattle.theory_ends.specs.FarEnds.{FarIs, at_process_lem, at_outside_lem, at_nobody, far_is}
use Rattle.theory_reductions.specs.Kinds.{given_up?}
use Rattle.theory_progress.specs.Joints.{JointKey, channel, handler}
use Rattle.theory_progress.specs.Outward.{outward_stands}
use Rattle.theory_progress.specs.Turns.{Sending, sends_close, sends_passing, sends_choice, Receiving, receives_close, receives_passing, receives_choice, one_receiving, received_provided}

-- a process waits on a joint: a handler on its link, a send or recv on a channel whose far end a process holds
pub data Waits (p : Program) (C : Config) (i : ℕ) (q : Process) : JointKey → Type 0 where
  waits_handler : {Q : Proc} → q.doing ≡ waiting Q → Waits p C i q (handler i)
  waits_send : {P : Proc} {c : Located} {h : Holder} (e : End) → Runs C i q P → Sending q.held P c e.side (unfolded p.types e.type)
      → Holds C q c e (at_process h) → Waits p C i q (channel e.channel)
  waits_receive : {P : Proc} {c : Located} {h : Holder} (e : End) → Runs C i q P → Receiving P c e.side (unfolded p.types e.type)
      → Holds C q c e (at_process h) → Waits p C i q (channel e.channel)

-- ── where a rule applies
module _ {p : Program} {C : Config} {i : ℕ} where
  by_rule : {seen : Seen} {D : Config} → Reduces p C i seen D → Applies p C i
  by_rule r = inl (_, _, r)

  sent : {seen : Seen} {D : Config} → Sends p C i seen D → Applies p C i
  sent s = by_rule (communicates its_own s)

  -- an end can always be given up
  parts : (e : End) → ((seen : Seen) (D : Config) → GivesUp C e seen D → Applies p C i) → Applies p C i
  parts e f = go (far_end C e) refl
    where
      go : (g : Far) → far_end C e ≡ g → Applies p C i
      go (at_process h) z = f _ _ (by_process z)
      go (at_outside n) z = f _ _ (by_outside z)
      go given_up z = f _ _ (by_nobody z)

  place_or_lack : (length C.processes < process_places → Applies p C i) → (process_places ≤ length C.processes → Lacks C i) → Applies p C i
  place_or_lack f g = go (dec_lt (length C.processes) process_places)
    where
      go : Dec (length C.processes < process_places) → Applies p C i
      go (yes b) = f b
      go (no b) = inr (inr (g (omega arith)))

  spawn_applies : {q : Process} {x : Located} {A : Ty Located} {P Q : Proc} → Runs C i q (spawn x A P Q) → Applies p C i
  spawn_applies r = place_or_lack (λ b. go b (fresh_channel C) refl) (spawn_no_place r)
    where
      go : length C.processes < process_places → (o : Option ℕ) → fresh_channel C ≡ o → Applies p C i
      go b none e = inr (inr (spawn_no_channel r e))
      go b (some k) e = by_rule (rule.spawns r b e)

  pass_applies : {q : Process} {o n : ℕ} {c a : Located} {P : Proc} {e d : End} → Runs C i q (send_channel o c a P) → lookup a.name q.held ≡ some d
      → Holds C q c e (at_outside n) → Applies p C i
  pass_applies {d = d} r y k = go (dec_lt C.given outside_numbers) (given_up? (far_end C d))
    where
      go : Dec (C.given < outside_numbers) → Dec (far_end C d ≡ given_up) → Applies p C i
      go (yes b) (yes z) = sent (gone_shows r k (record { held = y; far = z }) b)
      go (yes b) (no z) = sent (channel_shows r k (record { held = y; far = refl }) z b)
      go (no b) z = inr (inr (no_number its_own r k y (omega arith)))

  forward_applies : {q : Process} {o : ℕ} {x c : Located} {e d : End} → Runs C i q (fwd o x c) → lookup x.name q.held ≡ some e
      → lookup c.name q.held ≡ some d → Applies p C i
  forward_applies {e = e} {d = d} r y w = go (given_up? (far_end C d)) (far_end C e) refl
    where
      go : Dec (far_end C d ≡ given_up) → (g : Far) → far_end C e ≡ g → Applies p C i
      go (yes b) g z = parts e λ _ _ u. by_rule (nobody_joins r y (record { held = w; far = b }) u)
      go (no b) (at_process h) z = by_rule (joins r (record { held = y; far = z }) (record { held = w; far = refl }) b)
      go (no b) (at_outside n) z = by_rule (joins_outside r (record { held = y; far = z }) (record { held = w; far = refl }) b)
      go (no b) given_up z = by_rule (joins_nobody r (record { held = y; far = z }) (record { held = w; far = refl }) b)

  -- a raise starts the handler, or halts the run
  raise_applies : {q : Process} {o : ℕ} {P : Proc} → Runs C i q (raise o P) → Applies p C i
  raise_applies {q} r = go q.link refl
    where
      go : (y : Option ℕ) → q.link ≡ y → Applies p C i
      go none y = inr (inl (nobody_catches r y))
      go (some h) y = by_rule (rule.raises r y)

  fold_applies : {q : Process} → Stands C i q → q.doing ≡ folding → (l : List (Name × End)) → q.held ≡ l → Applies p C i
  fold_applies s d [] e = by_rule (leaves s (no_channel d e))
  fold_applies s d (x ∷ l) e = parts x.1 λ _ _ g. by_rule (folds s d e g)

-- ── what is typed steps or waits
module _ {p : Program} {C : Config} (v : WellFormed p C) {i : ℕ} {q : Process} (s : Stands C i q) where
  abbrev Moves : Type 0
  Moves = Applies p C i ⊎ ((k : JointKey) × Waits p C i q k)

  -- a send steps with the outside, goes on where its far end was given up, and waits for a process
  send_moves : {P : Proc} {c : Located} (e : End) → Runs C i q P → lookup c.name q.held ≡ some e
      → Sending q.held P c e.side (unfolded p.types e.type)
      → ((n : ℕ) → Holds C q c e (at_outside n) → Applies p C i) → (Holds C q c e given_up → Applies p C i) → Moves
  send_moves e r h g out lost = go (far_end C e) refl
    where
      go : (f : Far) → far_end C e ≡ f → Moves
      go (at_process _) z = inr (channel e.channel, waits_send e r g (record { held = h; far = z }))
      go (at_outside n) z = inl (out n (record { held = h; far = z }))
      go given_up z = inl (lost (record { held = h; far = z }))

  -- a recv whose far end is the outside's is not typed
  no_recv_outside : {P : Proc} {c : Located} {e : End} → In (c.name, e) q.held → Receiving P c e.side (unfolded p.types e.type)
      → (o : Outside) → In o C.outside → o.channel ≡ e.channel → e.side ≡ provided → ⊥
  no_recv_outside {P} {c} {e} m r o k z t =
      let w : OneType p e.type o.type = one_sym p (v.agree _ _ (outside_in_ends C k) (entry_in_ends s m) z) in
      let b : Receiving P c provided (unfolded p.types o.type) = rw t at (one_receiving p w r) in
      true≢false (sym (received_provided b) ∙ outward_stands p o.type (v.outside o k).0)

  receive_moves : {P : Proc} {c : Located} {w : Wanted} (e : End) → Runs C i q P → turn P ≡ receives c w → lookup c.name q.held ≡ some e
      → Receiving P c e.side (unfolded p.types e.type) → Moves
  receive_moves {c = c} e r t h g = go (far_is C e) refl
    where
      go : {f : Far} → FarIs C e f → far_end C e ≡ f → Moves
      go (at_process_lem _ _) z = inr (channel e.channel, waits_receive e r g (record { held = h; far = z }))
      go (at_outside_lem _ o k y u) z = absurd (no_recv_outside (lookup_in c.name q.held h) g o k y u)
      go (at_nobody _ _) z = inl (by_rule (unanswered r t (record { held = h; far = z })))

  term_moves : {P : Proc} → Runs C i q P → Typed p (context_of q.held) P → Moves
  term_moves r (sends_unit {c = c} e d) =
      let a = acts p c.name q.held e in
      send_moves a.end r a.found (sends_close a.side a.type) (λ _ k. sent (close_shows r k)) (λ k. sent (close_lost r k))
  term_moves r (recvs_unit {c = c} e d) =
      let a = acts p c.name q.held e in
      receive_moves a.end r refl a.found (receives_close a.side a.type)
  term_moves r (sends_channel {c = c} {a = n} T A t z e h l g d) =
      let a = acts p c.name q.held h in
      let b = held_plain n.name q.held _ _ l in
      send_moves a.end r a.found (sends_passing t b.end (ap passing a.type ∙ e) a.side b.found)
      (λ _ k. pass_applies r b.found k) (λ k. parts b.end λ _ _ u. sent (channel_lost r k b.found u))
  term_moves r (recvs_channel {c = c} T t e h b d) =
      let a = acts p c.name q.held h in
      receive_moves a.end r refl a.found (receives_passing t (ap passing a.type ∙ e) a.side)
  term_moves r (sends_label {c = c} T A t e h l d) =
      let a = acts p c.name q.held h in
      send_moves a.end r a.found (sends_choice t A (ap choosing a.type ∙ e) a.side l) (λ _ k. sent (label_shows r k)) (λ k. sent (label_lost r k))
  term_moves r (recvs_label {c = c} T t e h b) =
      let a = acts p c.name q.held h in
      receive_moves a.end r refl a.found (receives_choice t (ap choosing a.type ∙ e) a.side)
  term_moves r (forwards {x = x} {c = c} A B e f g h) =
      inl (forward_applies r (held_plain x.name q.held _ _ e).found (held_plain c.name q.held _ _ f).found)
  term_moves r (calls s e f g h k) = inl (by_rule (rule.calls r e))
  term_moves r (spawns H K h k n b b' d d') = inl (spawn_applies r)
  term_moves r (tries H K h k e d d') = inl (place_or_lack (λ b. by_rule (rule.tries r b)) (try_no_place r))
  term_moves r (raises d) = inl (raise_applies r)
  term_moves r (cancels {c = c} e d) =
      let t = (held_iff c.name (context_of q.held)).0 e in
      let a = held_plain c.name q.held t.0.side t.0.type t.1 in
      inl (parts a.end λ _ _ g. by_rule (rule.cancels r a.found g))
  term_moves r (empties e) = inl (by_rule (leaves r.stands (no_term r.runs)))

  pub applies_or_waits : Applies p C i ⊎ ((k : JointKey) × Waits p C i q k)
  applies_or_waits = go q.doing refl (v.typed i q s)
    where
      go : (d : Doing) → q.doing ≡ d → TypedAs p (context_of q.held) d → Moves
      go (running P) e t = term_moves (record { stands = s; runs = e }) t.1
      go folding e t = inl (fold_applies s e q.held refl)
      go (waiting Q) e t = inr (handler i, waits_handler e)
