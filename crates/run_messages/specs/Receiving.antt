-- A recv: as the send at its far end, or with its far end given up.
use Rattle.std.specs.Prelude.{◌<◌, ◌≤◌, suc, zero, ℕ, Bool, cond, false, true, List, ◌⊎◌, ◌≡◌, refl}
use Rattle.std.specs.Prelude.{Option, Some, None}
use Rattle.calculus.specs.Configuration.{Config, Holder, Outside, folds_up}
use Rattle.calculus.specs.Program.{Program}
use Rattle.calculus.specs.Steps.{Outcome, Turn, alone, answering, handler_starts, not_open, receive, receives, receiving, send, sends, turn_of}
use Rattle.calculus.specs.declared.answers.Seen.TheVariants.{Nothing}
use Rattle.check_contexts.specs.Held.{Drops, Sees}
use Rattle.notation.specs.Bytes.{same}
use Rattle.notation.specs.Reader.{name_in}
use Rattle.notation.specs.Token.{name_at}
use Rattle.notation.specs.declared.reading.TermNode.{TermNode}
use Rattle.read_tables.specs.Decode.{process_in}
use Rattle.read_tables.specs.Program.{plain_in, program_in}
use Rattle.read_tables.specs.Roots.{ProcessIn}
use Rattle.run_messages.specs.Kinds.{idle_kind, send_label_kind, send_unit_kind}
use Rattle.run_alone.specs.Forwarding.{far_as, far_of, far_raw}
use Rattle.run_alone.specs.Parting.{held_none, held_some}
use Rattle.run_alone.specs.Run.{Becomes, Carries, config_in, doing_as, process_as}
use Rattle.run_alone.specs.declared.outcome.Outcome.TheVariants.{Carried, NotOpen}
use Rattle.run_alone.specs.declared.outcome.Outcome.{Outcome as OutcomeWords}
use Rattle.run_messages.specs.Messages.{Heard, SendNode, heard, message_by, parts_by, turn_by}
use Rattle.run_words.specs.DecodeLaws.{FarAs, at_outside, given_up}
use Rattle.run_words.specs.Raw.{raw_in}
use Rattle.run_words.specs.declared.records.End.{End as EndWords}
use Rattle.run_words.specs.declared.records.Held.{Held}
use Rattle.run_words.specs.declared.records.Process.{Process as ProcessWords}
use Rattle.std.proofs.Common.{inl, inr, ◌∙◌, ap, subst, sym, arith}
use Rattle.calculus.specs.Configuration as calculus
use Rattle.run_words.specs.Values as values
use Rattle.run_words.specs.declared.records.Far.TheVariants as far
use Rattle.run_messages.specs.Sending.{send_by}

-- a process that sends, whatever its name for the channel
abbrev pub answered_by : Program → Config → Holder → Turn → Outcome
answered_by p C h (sends c m P) = send p C h.place h.process c m P
answered_by p C h (receives c v) = not_open
answered_by p C h alone = not_open

pub answering_heard : (p : Program) (C : Config) (h : Holder) (T : Turn) → answering p C h T ≡ answered_by p C h (heard h.name T)
answering_heard p C h (sends c m P) = go (same c.name h.name)
  where
    go : (b : Bool) → cond b (send p C h.place h.process c m P) not_open ≡ answered_by p C h (cond b (sends c m P) alone)
    go true = refl
    go false = refl
answering_heard p C h (receives c v) = go (same c.name h.name)
  where
    go : (b : Bool) → not_open ≡ answered_by p C h (cond b (receives c v) alone)
    go true = refl
    go false = refl
answering_heard p C h alone = refl

abbrev pub receiving_by : List ℕ → List ℕ → List ℕ → ℕ → ProcessWords → ℕ → EndWords → Outcome
receiving_by s w old i p c e = receiving (program_in s w) (config_in s w old) i (process_as s w p) (name_at s c) (far_of s w old e)

-- whatever recv has its far end at a place and position, that is what becomes of it
pub record Answers (s w old new : List ℕ) (j k : ℕ) (o : OutcomeWords) : Type 0 where
  pub is : (i : ℕ) (p : ProcessWords) (c : ℕ) (e : EndWords) → far_raw s w old e ≡ far.Process j k → Carries s w old new o (receiving_by s w old i p c e)

-- ── by the kind of the far end's node
module _ (s w : List ℕ) (C : Config) (h : Holder) (t : TermNode) where
  answered_alone : (k : ℕ) → (k ≡ 1 → ⊥) → (k ≡ 2 → ⊥) → (k ≡ 3 → ⊥) → answered_by (program_in s w) C h (turn_by s w t k) ≡ not_open
  answered_alone zero a b c = refl
  answered_alone (suc zero) a b c = absurd (a refl)
  answered_alone (suc (suc zero)) a b c = absurd (b refl)
  answered_alone (suc (suc (suc zero))) a b c = absurd (c refl)
  answered_alone (suc (suc (suc (suc zero)))) a b c = refl
  answered_alone (suc (suc (suc (suc (suc zero))))) a b c = refl
  answered_alone (suc (suc (suc (suc (suc (suc zero)))))) a b c = refl
  answered_alone (suc (suc (suc (suc (suc (suc (suc zero))))))) a b c = refl
  answered_alone (suc (suc (suc (suc (suc (suc (suc (suc zero)))))))) a b c = refl
  answered_alone (suc (suc (suc (suc (suc (suc (suc (suc (suc k))))))))) a b c = refl

  answered_send : (k : ℕ) → 1 ≤ k → k ≤ 3 → send (program_in s w) C h.place h.process (name_in s t.first) (message_by s t.second k) (process_in s w t.third) ≡ answered_by (program_in s w) C h (turn_by s w t k)
  answered_send zero a b = absurd (omega arith)
  answered_send (suc zero) a b = refl
  answered_send (suc (suc zero)) a b = refl
  answered_send (suc (suc (suc zero))) a b = refl
  answered_send (suc (suc (suc (suc k)))) a b = absurd (omega arith)

parts_third : (s w : List ℕ) (t : TermNode) (k : ℕ) → 1 ≤ k → k ≤ 3 → parts_by s w t k → ProcessIn s w t.third
parts_third s w t zero a b p = absurd (omega arith)
parts_third s w t (suc zero) a b p = p
parts_third s w t (suc (suc zero)) a b p = p
parts_third s w t (suc (suc (suc zero))) a b (l, p) = p
parts_third s w t (suc (suc (suc (suc k)))) a b p = absurd (omega arith)

pub send_parts : (s w : List ℕ) (t : TermNode) → send_unit_kind ≤ t.kind → t.kind ≤ send_label_kind → parts_by s w t t.kind → SendNode t × ProcessIn s w t.third
send_parts s w t a b p = (record { low = a; high = b; label = λ z. (subst (parts_by s w t) z p).0 }, parts_third s w t t.kind a b p)

module _ (s w old : List ℕ) (i : ℕ) (p : ProcessWords) (c : ℕ) (e : EndWords) where
  abbrev holder_by : ℕ → ProcessWords → ℕ → Holder
  holder_by j r x = record { place = j; process = process_as s w r; name = name_at s x }

  module _ (j x : ℕ) (r : ProcessWords) (t : TermNode) (f : far_of s w old e ≡ calculus.at_process (holder_by j r x)) (g : Heard s w x (doing_as s w r.kind r.pointer) t) where
    answers_as : receiving_by s w old i p c e ≡ answered_by (program_in s w) (config_in s w old) (holder_by j r x) (turn_by s w t t.kind)
    answers_as =
        ap (receiving (program_in s w) (config_in s w old) i (process_as s w p) (name_at s c)) f
        ∙ answering_heard (program_in s w) (config_in s w old) (holder_by j r x) (turn_of (doing_as s w r.kind r.pointer))
        ∙ ap (answered_by (program_in s w) (config_in s w old) (holder_by j r x)) g.is

    pub answers_not : (send_unit_kind ≤ t.kind → t.kind ≤ send_label_kind → ⊥) → Carries s w old old NotOpen (receiving_by s w old i p c e)
    answers_not z = subst (Carries s w old old NotOpen) (sym (answers_as ∙ answered_alone s w (config_in s w old) (holder_by j r x) t t.kind (λ y. z (omega arith) (omega arith)) (λ y. z (omega arith) (omega arith)) (λ y. z (omega arith) (omega arith)))) (record { is = (refl, refl) })

    pub answers : {new : List ℕ} {o : OutcomeWords} → send_unit_kind ≤ t.kind → t.kind ≤ send_label_kind → Carries s w old new o (send_by s w old j r t) → Carries s w old new o (receiving_by s w old i p c e)
    answers {new} {o} a b k = subst (Carries s w old new o) (answered_send s w (config_in s w old) (holder_by j r x) t t.kind a b ∙ sym answers_as) k

  receives_up : {F : calculus.Far} {new : List ℕ} {h : Held} → FarAs (name_at s) (plain_in s w) (process_in s w) (raw_in old) far.GivenUp F → Drops s p.held c h → Becomes s w old new (handler_starts i (process_as s w (values.folding_up h p)) (config_in s w old))
      → Carries s w old new (Carried Nothing) (receiving (program_in s w) (config_in s w old) i (process_as s w p) (name_at s c) F)
  receives_up {new = new} given_up d b = record { is = (refl, subst (λ l. Becomes s w old new (handler_starts i (folds_up (process_as s w p) l) (config_in s w old))) (d.is w) b) }

  pub receives_nothing : {new : List ℕ} {h : Held} → far.GivenUp ≡ far_raw s w old e → Drops s p.held c h → Becomes s w old new (handler_starts i (process_as s w (values.folding_up h p)) (config_in s w old)) → Carries s w old new (Carried Nothing) (receiving_by s w old i p c e)
  receives_nothing f d b = receives_up (far_as s w old e far.GivenUp f) d b

  receives_out : {k : ℕ} {F : calculus.Far} → FarAs (name_at s) (plain_in s w) (process_in s w) (raw_in old) (far.Outside k) F → Carries s w old old NotOpen (receiving (program_in s w) (config_in s w old) i (process_as s w p) (name_at s c) F)
  receives_out (at_outside g) = record { is = (refl, refl) }

  pub receives_outside : (k : ℕ) → far.Outside k ≡ far_raw s w old e → Carries s w old old NotOpen (receiving_by s w old i p c e)
  receives_outside k f = receives_out (far_as s w old e (far.Outside k) f)

-- ── the rule
module _ (s w old : List ℕ) (i : ℕ) (p : ProcessWords) (c : ℕ) {f : Option EndWords} (a : Sees s p.held c f) where
  pub receives_unheld : f ≡ None → Carries s w old old NotOpen (receive (program_in s w) (config_in s w old) i (process_as s w p) (name_in s c))
  unfolding receive
  receives_unheld q = held_none a _ q

  pub receives_on : {e : EndWords} {new : List ℕ} {o : OutcomeWords} → f ≡ Some e → Carries s w old new o (receiving_by s w old i p c e) → Carries s w old new o (receive (program_in s w) (config_in s w old) i (process_as s w p) (name_in s c))
  unfolding receive
  receives_on q k = held_some a _ q k
