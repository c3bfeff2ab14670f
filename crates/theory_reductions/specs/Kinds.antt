-- A term by its kind, and a far end by whether it was given up: where only a turn or a far end is known, what stands there.
use Rattle.std.specs.Prelude.{ℕ, ◌≡◌, refl, ◌≢◌}
use Rattle.std.proofs.Common.{ap}
use Rattle.std.proofs.lemmas.Bool.{false≢true}
use Rattle.notation.specs.Tree.{Located, Proc, empty, send_unit, send_channel, send_label, cancel, spawn, recv_unit, recv_channel, recv_label, fwd, call, raise, try, Branches}
use Rattle.calculus.specs.Configuration.{Doing, running, folding, waiting, Holder, Far, at_process, at_outside, given_up}
use Rattle.calculus.specs.Steps.{Message, closing, passes, chooses, on_close, on_channel, on_label, Turn, sends, receives, alone, turn, turn_of, is_given_up}

-- the term Q sends the message m over c, and goes on with P
pub data SendTerm : Proc → Located → Message → Proc → Type 0 where
  a_close : {o : ℕ} {c : Located} {P : Proc} → SendTerm (send_unit o c P) c closing P
  a_channel : {o : ℕ} {c a : Located} {P : Proc} → SendTerm (send_channel o c a P) c (passes a) P
  a_label : {o : ℕ} {c l : Located} {P : Proc} → SendTerm (send_label o c l P) c (chooses l) P

-- what a process does, by its turn
pub data ActsBy : Doing → Turn → Type 0 where
  closes_on : {o : ℕ} {c : Located} {P : Proc} → ActsBy (running (recv_unit o c P)) (receives c (on_close P))
  takes_on : {o : ℕ} {c x : Located} {P : Proc} → ActsBy (running (recv_channel o c x P)) (receives c (on_channel x P))
  picks_on : {o : ℕ} {c : Located} {B : Branches} → ActsBy (running (recv_label o c B)) (receives c (on_label B))
  sends_on : {Q : Proc} {c : Located} {m : Message} {P : Proc} → turn Q ≡ sends c m P → SendTerm Q c m P → ActsBy (running Q) (sends c m P)
  on_its_own : {d : Doing} → ActsBy d alone

pub term_acts : (P : Proc) → ActsBy (running P) (turn P)
term_acts (empty o) = on_its_own
term_acts (send_unit o c P) = sends_on refl a_close
term_acts (send_channel o c a P) = sends_on refl a_channel
term_acts (send_label o c l P) = sends_on refl a_label
term_acts (cancel o c P) = on_its_own
term_acts (spawn x A P Q) = on_its_own
term_acts (recv_unit o c P) = closes_on
term_acts (recv_channel o c x P) = takes_on
term_acts (recv_label o c B) = picks_on
term_acts (fwd o x c) = on_its_own
term_acts (call o f bracket xs ys) = on_its_own
term_acts (raise o P) = on_its_own
term_acts (try o P Q) = on_its_own

pub acts : (d : Doing) → ActsBy d (turn_of d)
acts (running P) = term_acts P
acts folding = on_its_own
acts (waiting P) = on_its_own

-- a far end that is held was not given up
pub at_a_process : (h : Holder) → at_process h ≢ given_up
at_a_process h e = false≢true (ap is_given_up e)

pub at_the_outside : (n : ℕ) → ◌≢◌ {A = Far} (at_outside n) given_up
at_the_outside n e = false≢true (ap is_given_up e)

pub given_up? : (f : Far) → Dec (f ≡ given_up)
given_up? (at_process h) = no (at_a_process h)
given_up? (at_outside n) = no (at_the_outside n)
given_up? given_up = yes refl
