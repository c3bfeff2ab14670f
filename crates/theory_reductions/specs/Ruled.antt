-- Each outcome of a step is told by the rules: what it carries out, that it halts the run, that it is not open, or what it lacks.
use Rattle.std.specs.Prelude.{ℕ, ◌≤◌, ◌<◌, ◌≡◌, ◌≢◌, Bool, true, false, cond, ltb}
use Rattle.std.proofs.Math.Path.{refl}
use mathlib.Core.List.{List, [], ◌∷◌, ◌++◌, append-nil}
use Rattle.std.proofs.Math.Option.{Option, some, none}
use Rattle.std.proofs.Math.ListN.{length}
use Rattle.notation.specs.Limits.{process_places, outside_numbers}
use Rattle.notation.specs.Bytes.{same}
use Rattle.notation.specs.Tree.{Name, Located, Proc, empty, send_unit, send_channel, send_label, cancel, spawn, recv_unit, recv_channel, recv_label, fwd, call, raise, try, plain}
use Rattle.calculus.specs.Named.{lookup}
use Rattle.calculus.specs.Typing.{names_of}
use Rattle.calculus.specs.Program.{Program, Signature}
use Rattle.calculus.specs.Configuration.{End, Doing, running, folding, waiting, Process, Config, Stands, with_outside, at, Holder, Far, at_process, at_outside, given_up, far_end, fresh_channel, replaced, goes_on, folds_up}
use Rattle.calculus.specs.Steps.{Outcome, carried, uncaught, not_open, lacking, on_held, Message, passes, chooses, Wanted, Turn, receives, turn, onward, after_send, by_branch, after_receive, branch_of, passed_end, seen_at, outside_after, parting, both_to, meeting, is_given_up, passed_out, to_outside, unheard, sending, send, answering, receiving, receive, cancelling, place_for, spawned, spawning, trying, entering, calling, caught_by, raising, emptied, joined_to, joining, forwarding, leaving, folding_up, step_term, step_doing, step_of, step}
use Rattle.calculus.specs.declared.answers.Seen.{Seen}
use Rattle.theory_derivations.specs.Equality.{same_iff}
use Rattle.theory_derivations.specs.Booleans.{ltb_iff}
use Rattle.theory_ends.specs.Lists.{not_below}
use Rattle.calculus.specs.Reduces.{Runs, Holds, GivesUp, by_process, by_outside, by_nobody, no_term, no_channel, Sends, close_meets, channel_meets, label_meets, label_left_out, close_shows, label_shows, channel_shows, gone_shows, close_lost, label_lost, channel_lost, Naming, its_own, its_recv, Reduces, communicates, spawns, tries, calls, cancels, raises, joins, joins_outside, joins_nobody, nobody_joins, unanswered, folds, leaves, Halts, nobody_catches, nobody_takes_lem, Lacks, no_number, spawn_no_place, spawn_no_channel, try_no_place}
use Rattle.theory_reductions.specs.Kinds.{SendTerm, a_close, a_channel, a_label, ActsBy, closes_on, takes_on, picks_on, sends_on, on_its_own, acts, at_a_process, at_the_outside}
use Rattle.theory_reductions.specs.CarriedOut.{holder_stands}

pub data Ruled (p : Program) (C : Config) (i : ℕ) : Outcome → Type 0 where
  ruled_reduces : {seen : Seen} {D : Config} → Reduces p C i seen D → Ruled p C i (carried seen D)
  ruled_halts : Halts C i → Ruled p C i uncaught
  ruled_shut : Ruled p C i not_open
  ruled_short : Lacks C i → Ruled p C i lacking

module _ {p : Program} {C : Config} {k : ℕ} where
  if_ruled : (b : Bool) {r t : Outcome} → (b ≡ true → Ruled p C k r) → (b ≡ false → Ruled p C k t) → Ruled p C k (cond b r t)
  if_ruled true f g = f refl
  if_ruled false f g = g refl

  held_ruled : (o : Option End) {f : End → Outcome} → ((e : End) → o ≡ some e → Ruled p C k (f e)) → Ruled p C k (on_held o f)
  held_ruled none f = ruled_shut
  held_ruled (some e) f = f e refl

  place_ruled : {r : Outcome} → (length C.processes < process_places → Ruled p C k r) → (process_places ≤ length C.processes → Lacks C k) → Ruled p C k (place_for C r)
  place_ruled f g = if_ruled (ltb (length C.processes) process_places) (λ b. f ((ltb_iff _ _).0 b)) (λ b. ruled_short (g ((not_below _ _).0 b)))

  parting_ruled : (i : ℕ) (q : Process) (e : End) → ((seen : Seen) (D : Config) → GivesUp C e seen D → Reduces p C k seen (replaced i q D)) → Ruled p C k (parting C i q e)
  unfolding parting
  parting_ruled i q e f = go (far_end C e) refl
    where
      go : (g : Far) → far_end C e ≡ g → Ruled p C k (carried (seen_at g) (with_outside (outside_after g e.channel C.outside) (replaced i q C)))
      go (at_process h) z = ruled_reduces (f _ _ (by_process z))
      go (at_outside n) z = ruled_reduces (f _ _ (by_outside z))
      go given_up z = ruled_reduces (f _ _ (by_nobody z))

  -- ── a send at place i, whose step place k names
  met : {i : ℕ} {seen : Seen} {D : Config} → Naming C k i → Sends p C i seen D → Ruled p C k (carried seen D)
  met n s = ruled_reduces (communicates n s)

  module _ {i : ℕ} (n : Naming C k i) {q : Process} where
    both_ruled : {Q : Proc} {c c' : Located} {m : Message} {P : Proc} {w : Wanted} {e : End} {h : Holder} {d : Doing}
        → SendTerm Q c m P → Runs C i q Q → Holds C q c e (at_process h) → h.process.doing ≡ d → ActsBy d (receives c' w) → same c'.name h.name ≡ true
        → Ruled p C k (both_to C i (goes_on q P (after_send p c.name m q.held)) h.place (after_receive p m w h.name (passed_end m q.held) h.process))
    unfolding after_send after_receive
    both_ruled a_close r l z closes_on s = met n (close_meets r l (record { runs = z; name = (same_iff _ _).0 s }))
    both_ruled a_close r l z takes_on s = ruled_shut
    both_ruled a_close r l z picks_on s = ruled_shut
    both_ruled a_channel r l z closes_on s = ruled_shut
    both_ruled a_channel r l z takes_on s = met n (channel_meets r l (record { runs = z; name = (same_iff _ _).0 s }))
    both_ruled a_channel r l z picks_on s = ruled_shut
    both_ruled a_label r l z closes_on s = ruled_shut
    both_ruled a_label r l z takes_on s = ruled_shut
    both_ruled {P = P} {e = e} {h = h} (a_label {c = c} {l = b}) r l z (picks_on {B = B}) s = go (branch_of b.name B) refl
      where
        go : (y : Option Proc) → branch_of b.name B ≡ y
            → Ruled p C k (both_to C i (goes_on q P (after_send p c.name (chooses b) q.held)) h.place (by_branch y h.process (onward p (chooses b) h.name h.process.held)))
        go none y = by_link h.process.link refl
          where
            by_link : (o : Option ℕ) → h.process.link ≡ o
                → Ruled p C k (caught_by o (replaced i (goes_on q P (after_send p c.name (chooses b) q.held)) C) h.place (folds_up h.process (onward p (chooses b) h.name h.process.held)))
            by_link none x = ruled_halts (nobody_takes_lem n r l (record { runs = z; name = (same_iff _ _).0 s }) y x)
            by_link (some g) x = met n (label_left_out r l (record { runs = z; name = (same_iff _ _).0 s }) y x)
        go (some R) y = met n (label_meets r l (record { runs = z; name = (same_iff _ _).0 s }) y)

    meeting_ruled : {Q : Proc} {c : Located} {m : Message} {P : Proc} {e : End} {h : Holder} {d : Doing} {t : Turn}
        → SendTerm Q c m P → Runs C i q Q → Holds C q c e (at_process h) → h.process.doing ≡ d → ActsBy d t
        → Ruled p C k (meeting p C i q (goes_on q P (after_send p c.name m q.held)) m h t)
    meeting_ruled {h = h} s r l z (closes_on {c = c'}) = if_ruled (same c'.name h.name) (both_ruled s r l z closes_on) (λ _. ruled_shut)
    meeting_ruled {h = h} s r l z (takes_on {c = c'}) = if_ruled (same c'.name h.name) (both_ruled s r l z takes_on) (λ _. ruled_shut)
    meeting_ruled {h = h} s r l z (picks_on {c = c'}) = if_ruled (same c'.name h.name) (both_ruled s r l z picks_on) (λ _. ruled_shut)
    meeting_ruled s r l z (sends_on u v) = ruled_shut
    meeting_ruled s r l z on_its_own = ruled_shut

    out_ruled : {Q : Proc} {c : Located} {m : Message} {P : Proc} {e : End} {x : ℕ} → SendTerm Q c m P → Runs C i q Q → Holds C q c e (at_outside x)
        → Ruled p C k (to_outside p C i q (goes_on q P (after_send p c.name m q.held)) m e x)
    unfolding after_send
    out_ruled a_close r l = met n (close_shows r l)
    out_ruled a_label r l = met n (label_shows r l)
    out_ruled {P = P} {e = e} {x = x} (a_channel {c = c} {a = a}) r l =
        held_ruled (lookup a.name q.held) λ d y. if_ruled (ltb C.given outside_numbers)
        (λ b. go d y ((ltb_iff _ _).0 b) (far_end C d) refl)
        (λ b. ruled_short (no_number n r l y ((not_below _ _).0 b)))
      where
        go : (d : End) → lookup a.name q.held ≡ some d → C.given < outside_numbers → (f : Far) → far_end C d ≡ f
            → Ruled p C k (passed_out p C i (goes_on q P (after_send p c.name (passes a) q.held)) a e x d (is_given_up f))
        go d y b (at_process h) z = met n (channel_shows r l (record { held = y; far = z }) (at_a_process h) b)
        go d y b (at_outside v) z = met n (channel_shows r l (record { held = y; far = z }) (at_the_outside v) b)
        go d y b given_up z = rw append-nil (met n (gone_shows r l (record { held = y; far = z }) b))

    lost_ruled : {Q : Proc} {c : Located} {m : Message} {P : Proc} {e : End} → SendTerm Q c m P → Runs C i q Q → Holds C q c e given_up
        → Ruled p C k (unheard C i q (goes_on q P (after_send p c.name m q.held)) m)
    unfolding after_send
    lost_ruled a_close r l = met n (close_lost r l)
    lost_ruled a_label r l = met n (label_lost r l)
    lost_ruled (a_channel {a = a}) r l = held_ruled (lookup a.name q.held) λ d y. parting_ruled i _ d λ _ _ g. communicates n (channel_lost r l y g)

    send_ruled : {Q : Proc} {c : Located} {m : Message} {P : Proc} → SendTerm Q c m P → Runs C i q Q → Ruled p C k (send p C i q c m P)
    unfolding send
    send_ruled {c = c} {m = m} {P = P} s r = held_ruled (lookup c.name q.held) λ e y. go e y (far_end C e) refl
      where
        go : (e : End) → lookup c.name q.held ≡ some e → (f : Far) → far_end C e ≡ f
            → Ruled p C k (sending p C i q (goes_on q P (after_send p c.name m q.held)) m e f)
        go e y (at_process h) z = meeting_ruled s r (record { held = y; far = z }) refl (acts h.process.doing)
        go e y (at_outside x) z = out_ruled s r (record { held = y; far = z })
        go e y given_up z = lost_ruled s r (record { held = y; far = z })

-- ── the rules at their own place
module _ {p : Program} {C : Config} {i : ℕ} {q : Process} where
  receive_ruled : {P : Proc} {c : Located} {w : Wanted} → Runs C i q P → turn P ≡ receives c w → Ruled p C i (receive p C i q c)
  unfolding receive
  receive_ruled {c = c} r t = held_ruled (lookup c.name q.held) λ e y. go e y (far_end C e) refl
    where
      answer : {e : End} {h : Holder} {d : Doing} {u : Turn} → Holds C q c e (at_process h) → h.process.doing ≡ d → ActsBy d u → Ruled p C i (answering p C h u)
      answer {h = h} l z (sends_on {c = c'} u s) = if_ruled (same c'.name h.name)
          (λ b. send_ruled (its_recv r t l (record { runs = z; name = (same_iff _ _).0 b }) u) s (record { stands = holder_stands l; runs = z })) (λ _. ruled_shut)
      answer l z closes_on = ruled_shut
      answer l z takes_on = ruled_shut
      answer l z picks_on = ruled_shut
      answer l z on_its_own = ruled_shut

      go : (e : End) → lookup c.name q.held ≡ some e → (f : Far) → far_end C e ≡ f → Ruled p C i (receiving p C i q c.name f)
      go e y (at_process h) z = answer (record { held = y; far = z }) refl (acts h.process.doing)
      go e y (at_outside n) z = ruled_shut
      go e y given_up z = ruled_reduces (unanswered r t (record { held = y; far = z }))

  forward_ruled : {o : ℕ} {x c : Located} → Runs C i q (fwd o x c) → Ruled p C i (forwarding C i q x c)
  unfolding forwarding
  forward_ruled {x = x} {c = c} r = held_ruled (lookup x.name q.held) λ e y. held_ruled (lookup c.name q.held) λ d w. go e d y w (far_end C d) refl
    where
      joined : (e d : End) → lookup x.name q.held ≡ some e → (f : Far) → Holds C q c d f → f ≢ given_up → (g : Far) → far_end C e ≡ g
          → Ruled p C i (joined_to C i q e d g)
      joined e d y f l b (at_process h) z = ruled_reduces (joins r (record { held = y; far = z }) l b)
      joined e d y f l b (at_outside n) z = ruled_reduces (joins_outside r (record { held = y; far = z }) l b)
      joined e d y f l b given_up z = ruled_reduces (joins_nobody r (record { held = y; far = z }) l b)

      go : (e d : End) → lookup x.name q.held ≡ some e → lookup c.name q.held ≡ some d → (f : Far) → far_end C d ≡ f → Ruled p C i (joining C i q e d f)
      go e d y w (at_process h) z = joined e d y (at_process h) (record { held = w; far = z }) (at_a_process h) (far_end C e) refl
      go e d y w (at_outside n) z = joined e d y (at_outside n) (record { held = w; far = z }) (at_the_outside n) (far_end C e) refl
      go e d y w given_up z = parting_ruled i (emptied q) e λ _ _ g. nobody_joins r y (record { held = w; far = z }) g

  term_ruled : (P : Proc) → Runs C i q P → Ruled p C i (step_term p C i q P)
  unfolding step_term cancelling spawning trying calling raising leaving
  term_ruled (empty o) r = ruled_reduces (leaves r.stands (no_term r.runs))
  term_ruled (send_unit o c P) r = send_ruled its_own a_close r
  term_ruled (send_channel o c a P) r = send_ruled its_own a_channel r
  term_ruled (send_label o c l P) r = send_ruled its_own a_label r
  term_ruled (cancel o c P) r = held_ruled (lookup c.name q.held) λ e y. parting_ruled i _ e λ _ _ g. cancels r y g
  term_ruled (spawn x A P Q) r = place_ruled (λ b. go b (fresh_channel C) refl) (spawn_no_place r)
    where
      go : length C.processes < process_places → (y : Option ℕ) → fresh_channel C ≡ y → Ruled p C i (spawned C i q x.name (plain A) P Q y)
      go b none y = ruled_short (spawn_no_channel r y)
      go b (some n) y = ruled_reduces (spawns r b y)
  term_ruled (recv_unit o c P) r = receive_ruled r refl
  term_ruled (recv_channel o c x P) r = receive_ruled r refl
  term_ruled (recv_label o c B) r = receive_ruled r refl
  term_ruled (fwd o x c) r = forward_ruled r
  term_ruled (call o f bracket xs ys) r = go (lookup f.name p.processes) refl
    where
      go : (y : Option Signature) → lookup f.name p.processes ≡ y → Ruled p C i (entering C i q (names_of xs ++ names_of ys) y)
      go none y = ruled_shut
      go (some s) y = ruled_reduces (calls r y)
  term_ruled (raise o P) r = go q.link refl
    where
      go : (y : Option ℕ) → q.link ≡ y → Ruled p C i (caught_by y C i (goes_on q P q.held))
      go none y = ruled_halts (nobody_catches r y)
      go (some h) y = ruled_reduces (raises r y)
  term_ruled (try o P Q) r = place_ruled (λ b. ruled_reduces (tries r b)) (try_no_place r)

  folding_ruled : Stands C i q → q.doing ≡ folding → (l : List (Name × End)) → q.held ≡ l → Ruled p C i (folding_up C i q l)
  unfolding folding_up leaving
  folding_ruled s d [] e = ruled_reduces (leaves s (no_channel d e))
  folding_ruled s d (x ∷ l) e = parting_ruled i _ x.1 λ _ _ g. folds s d e g

  doing_ruled : Stands C i q → (d : Doing) → q.doing ≡ d → Ruled p C i (step_doing p C i q d)
  doing_ruled s (running P) e = term_ruled P (record { stands = s; runs = e })
  doing_ruled s folding e = folding_ruled s e q.held refl
  doing_ruled s (waiting Q) e = ruled_shut

pub step_ruled : (p : Program) (C : Config) (i : ℕ) → Ruled p C i (step p C i)
unfolding step
step_ruled p C i = go (at C i) refl
  where
    go : (o : Option Process) → at C i ≡ o → Ruled p C i (step_of p C i o)
    go none e = ruled_shut
    go (some q) e = doing_ruled (record { there = e }) q.doing refl
