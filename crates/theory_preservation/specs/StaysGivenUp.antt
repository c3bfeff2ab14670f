-- An end that was given up stays given up: no step gives it to anyone again, while its channel is held.
use Rattle.std.specs.Prelude.{ℕ, ◌≡◌, ◌≢◌, List, [], ◌∷◌, ◌++◌}
use Rattle.std.proofs.Common.{sym, ◌∙◌, ap, subst}
use mathlib.Core.List.Memᴰ
use Rattle.std.proofs.Math.Option.{some, none}
use Rattle.notation.specs.Tree.{Name, Located, plain}
use Rattle.calculus.specs.Named.{lookup, without, In}
use Rattle.calculus.specs.Types.{Side, provided, used, other}
use Rattle.calculus.specs.Program.{Program}
use Rattle.calculus.specs.Configuration.{End, end, Process, Outside, Config, Stands, with_outside, replaced, goes_on, folds_up, linked_by, fresh_channel, Holder, at_process, given_up, far_end, outside_of, outside_of_channel}
use Rattle.calculus.specs.Steps.{Message, passes, chooses, onward, outside_onward, handler_starts, started_handler, folded_handler}
use Rattle.calculus.specs.Reduces.{GivesUp, Sends, close_meets, channel_meets, label_meets, label_left_out, close_shows, label_shows, channel_shows, gone_shows, close_lost, label_lost, channel_lost, Reduces, communicates, spawns, tries, calls, cancels, raises, joins, joins_outside, joins_nobody, nobody_joins, unanswered, folds, leaves}
use Rattle.calculus.specs.WellFormed.{key, WellFormed}
use Rattle.calculus.specs.declared.answers.Seen.{Seen}
use Rattle.theory_ends.specs.Lists.{found_in}
use Rattle.theory_derivations.specs.Named.{lookup_in}
use Rattle.theory_ends.specs.FarEnds.{stands_at, far_held, far_outside}
use Rattle.theory_preservation.specs.Roster.{channel_key, tip_of}
use Rattle.theory_preservation.specs.Each.{each_none, each_sub, each_append, each_more, each_inserted, each_removed, each_changed_at}
use Rattle.theory_preservation.specs.Outsides.{let_go_sub, each_changed}
use Rattle.theory_preservation.specs.TwoEnds.{held_tip}
use Rattle.theory_preservation.specs.FarEnds.{fresh_unheld}
use Rattle.theory_preservation.specs.Invariant.{Inv, at_roster, runs_typed}
use Rattle.theory_preservation.specs.GivingUp.{gives_up}
use Rattle.theory_preservation.specs.Joining.{far_relocated, forwards_as}
use Rattle.theory_preservation.specs.Calling.{called_was}
use Rattle.theory_preservation.specs.Sending.{passes_used}
use Rattle.theory_preservation.specs.ToInvariant.{inv_iff}
use Rattle.theory_preservation.specs.Nobody.{FreeOf, OutsideFreeOf, Nobody, given_up_nobody, nobody_given_up, free_without, free_spawn_takes, free_spawn_leaves, free_try_takes, free_onward, free_bound, free_relocated, free_new, nobody_set}

-- ── nobody has an end of the key κ, and its channel is not free: so it is after each step
module _ {p : Program} {C : Config} (I : Inv p C) {κ : ℕ × Side} (n : Nobody κ C.processes C.outside) (taken : (k : ℕ) → fresh_channel C ≡ some k → k ≢ κ.0) where
  -- nobody has it still
  abbrev Still : Config → Type 0
  Still D = Nobody κ D.processes D.outside

  -- no end that a process holds has the key
  free : {i : ℕ} {q : Process} → Stands C i q → FreeOf κ q.held
  free {i} {q} s = n.processes q (found_in C.processes i s.there)

  -- nor has one that the holder of a far end holds
  far_free : (e : End) {h : Holder} → far_end C e ≡ at_process h → FreeOf κ h.process.held
  far_free e z = free (stands_at C (far_held C e z))

  -- nor has one of a name, whatever side it is said to be on
  named_free : {i : ℕ} {q : Process} → Stands C i q → (c : Name) {d : End} → lookup c q.held ≡ some d → key d ≢ κ
  named_free {q = q} s c {d} e = free s (c, d) (lookup_in c q.held e)

  side_free : {i : ℕ} {q : Process} → Stands C i q → (c : Name) {d : End} → lookup c q.held ≡ some d → {s : Side} → d.side ≡ s → (d.channel, s) ≢ κ
  side_free t c {d} e z w = named_free t c e ((λ i. (d.channel, z i)) ∙ w)

  -- nor has one of what a send leaves: c is closed, a goes over c, or a label does
  closed_free : {i : ℕ} {q : Process} → Stands C i q → (c : Located) → FreeOf κ (without c.name q.held)
  closed_free {q = q} s c = free_without c.name q.held (free s)

  passed_free : {i : ℕ} {q : Process} → Stands C i q → (c a : Located) → FreeOf κ (onward p (passes a) c.name (without a.name q.held))
  passed_free {q = q} s c a = free_onward p (passes a) c.name (without a.name q.held) (closed_free s a)

  chosen_free : {i : ℕ} {q : Process} → Stands C i q → (c l : Located) → FreeOf κ (onward p (chooses l) c.name q.held)
  chosen_free {q = q} s c l = free_onward p (chooses l) c.name q.held (free s)

  -- nor has one of the outside's, when a message came over one of them
  onward_free : (m : Message) (k : ℕ) → OutsideFreeOf κ (outside_onward p m k C.outside)
  onward_free m k = each_changed k _ _ C.outside I.good.fair.keys (λ y i _. n.outside y i) (λ y i _. n.outside y i)

  -- ── a process is replaced, or two are
  still_one : (i : ℕ) (q : Process) → FreeOf κ q.held → Still (replaced i q C)
  still_one = nobody_set n

  still_two : (i : ℕ) (q : Process) (j : ℕ) (r : Process) → FreeOf κ q.held → FreeOf κ r.held → Still (replaced j r (replaced i q C))
  still_two i q j r f = nobody_set (still_one i q f) j r

  -- and the outside has other channels
  still_shown : (i : ℕ) (q : Process) {o : List Outside} → FreeOf κ q.held → OutsideFreeOf κ o → Still (with_outside o (replaced i q C))
  still_shown i q f g = record { processes = (still_one i q f).processes; outside = g }

  -- and an end is given up
  still_parted : (i : ℕ) (q : Process) → FreeOf κ q.held → {e : End} {seen : Seen} {D : Config} → GivesUp C e seen D → Still (replaced i q D)
  still_parted i q f g = gives_up (λ D. Still (replaced i q D)) g (λ ys s. still_shown i q f (each_sub _ s n.outside))

  -- and its handler starts
  still_started : (D : Config) → Still D → (i : ℕ) (q : Process) → FreeOf κ q.held → Still (handler_starts i q D)
  still_started D m i q =
      nobody_set (record { processes = each_changed_at _ started_handler (λ _ f. f) q.link D.processes m.processes; outside = m.outside }) i (linked_by none q)

  -- ── the rules
  sends_still : {i : ℕ} {seen : Seen} {D : Config} → Sends p C i seen D → Still D
  sends_still {i} (close_meets {c = c} {e = e} {h = h} r x _) =
      still_two i _ h.place _ (closed_free r.stands c) (free_without h.name _ (far_free e x.far))
  sends_still {i} (channel_meets {q = q} {c = c} {a = a} {x = y} {e = e} {h = h} r x _) =
      still_two i _ h.place _ (passed_free r.stands c a)
      (each_append _ _ _ (free_onward p (passes a) h.name _ (far_free e x.far))
      (free_bound p y.name (lookup h.name h.process.held) (lookup a.name q.held) (λ _. named_free r.stands a.name)))
  sends_still {i} (label_meets {c = c} {l = l} {e = e} {h = h} r x _ _) =
      still_two i _ h.place _ (chosen_free r.stands c l) (free_onward p (chooses l) h.name _ (far_free e x.far))
  sends_still {i} (label_left_out {q = q} {c = c} {l = l} {P = P} {e = e} {h = h} r x _ _ _) =
      still_started (replaced i (goes_on q P (onward p (chooses l) c.name q.held)) C) (still_one i _ (chosen_free r.stands c l)) h.place (folds_up h.process _) (free_onward p (chooses l) h.name _ (far_free e x.far))
  sends_still {i} (close_shows {c = c} {e = e} r _) = still_shown i _ (closed_free r.stands c) (each_sub _ (let_go_sub e.channel C.outside) n.outside)
  sends_still {i} (label_shows {c = c} {l = l} {e = e} r _) = still_shown i _ (chosen_free r.stands c l) (onward_free (chooses l) e.channel)
  sends_still {i} (channel_shows {c = c} {a = a} {e = e} {d = d} r x y _ lt) =
      still_shown i _ (passed_free r.stands c a)
      (each_append _ _ _ (onward_free (passes a) e.channel)
      (free_new p C.given (outside_of e.channel C.outside) d
      (side_free r.stands a.name y.held (passes_used I r x.held (far_outside C e x.far) y.held lt))))
  sends_still {i} (gone_shows {c = c} {a = a} {e = e} r _ _ _) =
      still_shown i _ (passed_free r.stands c a) (onward_free (passes a) e.channel)
  sends_still {i} (close_lost {c = c} r _) = still_one i _ (closed_free r.stands c)
  sends_still {i} (label_lost {c = c} {l = l} r _) = still_one i _ (chosen_free r.stands c l)
  sends_still {i} (channel_lost {c = c} {a = a} r _ _ g) = still_parted i _ (passed_free r.stands c a) g

  reduces_still : {i : ℕ} {seen : Seen} {D : Config} → Reduces p C i seen D → Still D
  reduces_still (communicates _ s) = sends_still s
  reduces_still {i} (spawns {x = x} {A = A} {P = P} {k = k} r _ e) = record {
    processes = each_inserted _ i _ _ (still_one i _ (with_new used (free_spawn_leaves x.name P _ (free r.stands)))).processes
        (with_new provided (free_spawn_takes x.name P _ (free r.stands)));
    outside = n.outside;
  }
    where
      -- the new channel is not that of κ
      with_new : (s : Side) {l : List (Name × End)} → FreeOf κ l → FreeOf κ (l ++ ((x.name, end s k (plain A)) ∷ []))
      with_new s f = each_more _ _ _ f (λ z. taken k e (ap (λ (k : ℕ × Side). k.0) z))
  reduces_still {i} (tries {P = P} {Q = Q} r _) =
      nobody_set (record { processes = each_inserted _ i _ C.processes n.processes (free_try_takes Q _ (free r.stands)); outside = n.outside }) i _
      (free_try_takes P _ (free r.stands))
  reduces_still {i} (calls {q = q} r e) =
      still_one i _ (λ x m z. let y = called_was p q.held (runs_typed I r) e x m in free r.stands (y.name, y.end) y.held (y.same ∙ z))
  reduces_still {i} (cancels {c = c} r _ g) = still_parted i _ (closed_free r.stands c) g
  reduces_still {i} (raises {q = q} {P = P} r _) = still_started C n i (goes_on q P q.held) (free r.stands)
  reduces_still {i} (joins {c = c} {e = e} {d = d} {h = h} r x y _) =
      let t = forwards_as I r.stands r.runs x.held y.held (runs_typed I r) in
      let f = far_held C e x.far in
      still_two i _ h.place _ (each_none _)
      (free_relocated (far_relocated I e d.channel f) (side_free r.stands c.name y.held (t.takes ∙ sym (f.side ∙ ap other t.gives))) (far_free e x.far))
  reduces_still {i} (joins_outside {c = c} {e = e} {d = d} r x y _) =
      let t = forwards_as I r.stands r.runs x.held y.held (runs_typed I r) in
      still_shown i _ (each_none _)
      (each_changed e.channel (outside_of_channel d.channel) _ C.outside I.good.fair.keys
      (λ _ _ _. side_free r.stands c.name y.held t.takes) (λ y i _. n.outside y i))
  reduces_still {i} (joins_nobody _ _ _ _) = still_one i _ (each_none _)
  reduces_still {i} (nobody_joins _ _ _ g) = still_parted i _ (each_none _) g
  reduces_still {i} (unanswered {q = q} {c = c} r _ _) = still_started C n i (folds_up q (without c.name q.held)) (closed_free r.stands c)
  reduces_still {i} (folds s _ h g) = still_parted i _ (λ x m. free s x (subst (In x) (sym h) (Memᴰ.tail m))) g
  reduces_still {i} (leaves {q = q} _ _) = record {
    processes = each_removed _ i _ (each_changed_at _ folded_handler (λ _ f. f) q.link C.processes n.processes);
    outside = n.outside;
  }

-- ── the channel of an end that is held is not free
module _ {p : Program} {C : Config} (w : WellFormed p C) where
  pub given_up_stays : {k : ℕ} {seen : Seen} {D : Config} → Reduces p C k seen D → {j : ℕ} {q : Process} {n : Name} {e : End}
      → Stands C j q → In (n, e) q.held → far_end C e ≡ given_up → far_end D e ≡ given_up
  given_up_stays {D = D} r {j} {q} {n} {e} s m z = nobody_given_up D e (reduces_still I (given_up_nobody C e z) taken r)
    where
      I : Inv p C
      I = ((inv_iff p C).1 w).0

      taken : (k : ℕ) → fresh_channel C ≡ some k → k ≢ e.channel
      taken k f h = (fresh_unheld C I.shows k f).1 (I.id j) (tip_of e) (held_tip I.good (I.id j) _ (at_roster I j q s.there) (n, e) m) (ap channel_key (sym h))
