-- What the rules say is carried out: the step at a place computes to what a derivation ends in.
use Rattle.std.specs.Prelude.{ℕ, ◌≤◌, ◌<◌, ◌≡◌, Bool, ◌≢◌, length, ltb}
use Rattle.std.proofs.Math.Path.{refl}
use Rattle.std.proofs.Common.{sym, ◌∙◌, ap, append-nil}
use Rattle.std.proofs.Math.Bool.{true, false, cond}
use Rattle.notation.specs.Limits.{process_places}
use Rattle.notation.specs.Bytes.{same}
use Rattle.notation.specs.Tree.{Name, Located, Proc}
use Rattle.calculus.specs.Program.{Program}
use Rattle.calculus.specs.Configuration.{End, running, Process, Config, Stands, Holder, Far, at_process, at_outside, given_up, far_end, replaced}
use Rattle.calculus.specs.Steps.{Outcome, carried, uncaught, lacking, Turn, sends, receives, alone, turn, turn_of, after_send, after_receive, is_given_up, parting, joined_to, joining, send, answering, receive, cancelling, spawning, trying, calling, raising, forwarding, leaving, folding_up, step_term, step_doing, step_of, step}
use Rattle.calculus.specs.declared.answers.Seen.{Seen}
use Rattle.theory_derivations.specs.Equality.{same_iff}
use Rattle.theory_derivations.specs.Booleans.{ltb_iff, cond_true}
use Rattle.theory_ends.specs.Lists.{not_below}
use Rattle.theory_ends.specs.FarEnds.{stands_at, HeldFar, FarIs, at_process_lem, far_is}
use Rattle.calculus.specs.Reduces.{Runs, Holds, GivesUp, by_process, by_outside, by_nobody, no_term, no_channel, Sends, close_meets, channel_meets, label_meets, label_left_out, close_shows, label_shows, channel_shows, gone_shows, close_lost, label_lost, channel_lost, Naming, its_own, its_recv, Reduces, communicates, spawns, tries, calls, cancels, raises, joins, joins_outside, joins_nobody, nobody_joins, unanswered, folds, leaves, Halts, nobody_catches, nobody_takes_lem, Lacks, no_number, spawn_no_place, spawn_no_channel, try_no_place}
use Rattle.theory_reductions.specs.Kinds.{a_close, a_channel, a_label, ActsBy, closes_on, takes_on, picks_on, sends_on, on_its_own, term_acts}

-- ── the step at the place of a process
pub step_at : (p : Program) {C : Config} {i : ℕ} {q : Process} → Stands C i q → step p C i ≡ step_doing p C i q q.doing
unfolding step
step_at p {C} {i} s = ap (step_of p C i) s.there

pub step_runs : (p : Program) {C : Config} {i : ℕ} {q : Process} {P : Proc} → Runs C i q P → step p C i ≡ step_term p C i q P
step_runs p {C} {i} {q} r = step_at p r.stands ∙ ap (step_doing p C i q) r.runs

-- a term's kind decides
abbrev by_turn : Program → Config → ℕ → Process → Turn → Outcome → Outcome
by_turn p C i q (sends c m P) r = send p C i q c m P
by_turn p C i q (receives c w) r = receive p C i q c
by_turn p C i q alone r = r

step_turn : (p : Program) (C : Config) (i : ℕ) (q : Process) (P : Proc) {t : Turn} → ActsBy (running P) t → step_term p C i q P ≡ by_turn p C i q t (step_term p C i q P)
unfolding step_term
step_turn p C i q P closes_on = refl
step_turn p C i q P takes_on = refl
step_turn p C i q P picks_on = refl
step_turn p C i q P (sends_on u a_close) = refl
step_turn p C i q P (sends_on u a_channel) = refl
step_turn p C i q P (sends_on u a_label) = refl
step_turn p C i q P on_its_own = refl

pub step_by : (p : Program) {C : Config} {i : ℕ} {q : Process} {P : Proc} {t : Turn} → Runs C i q P → turn P ≡ t
    → step p C i ≡ by_turn p C i q t (step_term p C i q P)
step_by p {C} {i} {q} {P} r e = step_runs p r ∙ step_turn p C i q P (term_acts P) ∙ ap (λ t. by_turn p C i q t (step_term p C i q P)) e

-- who holds a far end, and that it stands at the place that is said
pub holder_found : {C : Config} {q : Process} {c : Located} {e : End} {h : Holder} → Holds C q c e (at_process h) → HeldFar C e h
holder_found {C} {e = e} {h = h} k = go (rw k.far at (far_is C e))
  where
    go : FarIs C e (at_process h) → HeldFar C e h
    go (at_process_lem _ f) = f

pub holder_stands : {C : Config} {q : Process} {c : Located} {e : End} {h : Holder} → Holds C q c e (at_process h) → Stands C h.place h.process
holder_stands {C} k = stands_at C (holder_found k)

named : {m n : Name} → m ≡ n → same m n ≡ true
named {m} {n} = (same_iff m n).1

-- "either one's place names the step"
pub names_step : (p : Program) {C : Config} {i j : ℕ} → Naming C i j → step p C i ≡ step p C j
unfolding receive
names_step p its_own = refl
names_step p {C} (its_recv {h = h} r t k a u) =
    step_by p r t ∙ rw (k.held, k.far) (ap (answering p C h) (ap turn_of a.runs ∙ u) ∙ cond_true _ _ (named a.name) ∙ sym (step_by p (record { stands = holder_stands k; runs = a.runs }) u))

-- ── an end that is given up
parted : {C : Config} {e : End} {seen : Seen} {D : Config} (i : ℕ) (q : Process) → GivesUp C e seen D → parting C i q e ≡ carried seen (replaced i q D)
unfolding parting
parted i q (by_process z) = rw z
parted i q (by_outside z) = rw z
parted i q (by_nobody z) = rw z

-- a far end that was not given up
there : {f : Far} → f ≢ given_up → is_given_up f ≡ false
there {f = at_process h} n = refl
there {f = at_outside m} n = refl
there {f = given_up} n = absurd (n refl)

joined : (C : Config) (i : ℕ) (q : Process) (e d : End) {f g : Far} → far_end C e ≡ g → far_end C d ≡ f → f ≢ given_up
    → joining C i q e d (far_end C d) ≡ joined_to C i q e d g
joined C i q e d {f} {g} z y n = rw (y, ← z) (go f n)
  where
    go : (f : Far) → f ≢ given_up → joining C i q e d f ≡ joined_to C i q e d (far_end C e)
    go (at_process h) n = refl
    go (at_outside m) n = refl
    go given_up n = absurd (n refl)

below : {m n : ℕ} → m < n → ltb m n ≡ true
below {m} {n} = (ltb_iff m n).1

not_under : {m n : ℕ} → n ≤ m → ltb m n ≡ false
not_under {m} {n} = (not_below m n).1

module _ (p : Program) {C : Config} {i : ℕ} where
  pub sends_step : {seen : Seen} {D : Config} → Sends p C i seen D → step p C i ≡ carried seen D
  unfolding step_term send after_send after_receive
  sends_step (close_meets r k a) = step_runs p r ∙ rw (k.held, k.far, a.runs, named a.name)
  sends_step (channel_meets r k a) = step_runs p r ∙ rw (k.held, k.far, a.runs, named a.name)
  sends_step (label_meets r k a b) = step_runs p r ∙ rw (k.held, k.far, a.runs, named a.name, b)
  sends_step (label_left_out r k a b l) = step_runs p r ∙ rw (k.held, k.far, a.runs, named a.name, b, l)
  sends_step (close_shows r k) = step_runs p r ∙ rw (k.held, k.far)
  sends_step (label_shows r k) = step_runs p r ∙ rw (k.held, k.far)
  sends_step (channel_shows r k l n m) = step_runs p r ∙ rw (k.held, k.far, l.held, below m, l.far, there n)
  sends_step (gone_shows r k l m) = step_runs p r ∙ rw (k.held, k.far, l.held, below m, l.far, append-nil)
  sends_step (close_lost r k) = step_runs p r ∙ rw (k.held, k.far)
  sends_step (label_lost r k) = step_runs p r ∙ rw (k.held, k.far)
  sends_step (channel_lost r k l g) = step_runs p r ∙ rw (k.held, k.far, l) (parted i _ g)

module _ (p : Program) {C : Config} {i : ℕ} where
  pub carried_out_lem : {seen : Seen} {D : Config} → Reduces p C i seen D → step p C i ≡ carried seen D
  unfolding step_term spawning trying calling cancelling raising forwarding receive leaving folding_up
  carried_out_lem (communicates n s) = names_step p n ∙ sends_step p s
  carried_out_lem (spawns r n k) = step_runs p r ∙ rw (below n, k)
  carried_out_lem (tries r n) = step_runs p r ∙ rw (below n)
  carried_out_lem (calls r s) = step_runs p r ∙ rw s
  carried_out_lem (cancels r k g) = step_runs p r ∙ rw k (parted i _ g)
  carried_out_lem (raises r l) = step_runs p r ∙ rw l
  carried_out_lem (joins {q = q} {e = e} {d = d} r k l n) = step_runs p r ∙ rw (k.held, l.held) (joined C i q e d k.far l.far n)
  carried_out_lem (joins_outside {q = q} {e = e} {d = d} r k l n) = step_runs p r ∙ rw (k.held, l.held) (joined C i q e d k.far l.far n)
  carried_out_lem (joins_nobody {q = q} {e = e} {d = d} r k l n) = step_runs p r ∙ rw (k.held, l.held) (joined C i q e d k.far l.far n)
  carried_out_lem (nobody_joins r k l g) = step_runs p r ∙ rw (k, l.held, l.far) (parted i _ g)
  carried_out_lem (unanswered r t k) = step_by p r t ∙ rw (k.held, k.far)
  carried_out_lem (folds s d h g) = step_at p s ∙ rw (d, h) (parted i _ g)
  carried_out_lem (leaves s (no_term d)) = step_at p s ∙ rw d
  carried_out_lem (leaves s (no_channel d h)) = step_at p s ∙ rw (d, h)

  pub halts_out : Halts C i → step p C i ≡ uncaught
  unfolding step_term send after_receive raising
  halts_out (nobody_catches r l) = step_runs p r ∙ rw l
  halts_out (nobody_takes_lem n r k a b l) = names_step p n ∙ step_runs p r ∙ rw (k.held, k.far, a.runs, named a.name, b, l)

  pub lacks_out : Lacks C i → step p C i ≡ lacking
  unfolding step_term spawning trying send
  lacks_out (no_number n r k a m) = names_step p n ∙ step_runs p r ∙ rw (k.held, k.far, a, not_under m)
  lacks_out (spawn_no_place r n) = step_runs p r ∙ rw (not_under n)
  lacks_out (spawn_no_channel r k) = step_runs p r ∙ rw k (go (ltb (length C.processes) process_places))
    where
      go : (b : Bool) → cond b lacking lacking ≡ lacking
      go true = refl
      go false = refl
  lacks_out (try_no_place r n) = step_runs p r ∙ rw (not_under n)
