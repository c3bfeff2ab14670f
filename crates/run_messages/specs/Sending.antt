-- A send, whoever is at the far end.
use Rattle.std.specs.Prelude.{◌≤◌, suc, zero, ℕ, length, List, ◌≡◌, refl}
use Rattle.std.specs.Prelude.{Option, Some, None}
use Rattle.calculus.specs.Configuration.{Process, goes_on, replaced}
use Rattle.calculus.specs.Steps.{Outcome, after_send, parting, send, sending, unheard}
use Rattle.calculus.specs.declared.answers.Seen.TheVariants.{Nothing}
use Rattle.check_contexts.specs.Held.{Sees, channels_of}
use Rattle.notation.specs.Reader.{name_in}
use Rattle.notation.specs.Token.{name_at}
use Rattle.notation.specs.declared.reading.TermNode.{TermNode}
use Rattle.read_tables.specs.Decode.{process_in}
use Rattle.read_tables.specs.Program.{plain_in, program_in}
use Rattle.run_messages.specs.Kinds.{send_channel_kind, send_label_kind, send_unit_kind}
use Rattle.run_alone.specs.Forwarding.{far_as, far_of, far_raw}
use Rattle.run_alone.specs.Parting.{end_as, held_none, held_some}
use Rattle.run_alone.specs.Run.{Becomes, Carries, ProcessOf, StandsAt, config_in, process_as}
use Rattle.run_alone.specs.declared.outcome.Outcome.TheVariants.{Carried, NotOpen}
use Rattle.run_alone.specs.declared.outcome.Outcome.{Outcome as OutcomeWords}
use Rattle.run_messages.specs.Messages.{SendNode, SentHeld, message, message_by}
use Rattle.run_messages.specs.declared.messages.Sending.{Sending}
use Rattle.run_words.specs.DecodeLaws.{FarAs, given_up}
use Rattle.run_words.specs.Raw.{raw_in}
use Rattle.run_words.specs.declared.records.End.{End as EndWords}
use Rattle.run_words.specs.declared.records.Held.{Held}
use Rattle.run_words.specs.declared.records.Process.{Process as ProcessWords}
use Rattle.std.proofs.Common.{subst, sym, arith}
use Rattle.calculus.specs.Configuration as calculus
use Rattle.run_words.specs.Values as values
use Rattle.run_words.specs.declared.records.Far.TheVariants as far

-- a send under way: the process stands at its place, and what it will be is of the text
pub record SendingIn (s w ws : List ℕ) (sent : Sending) : Type 0 where
  pub stands : StandsAt s w ws sent.place sent.before
  pub after : ProcessOf s w (length (raw_in ws).processes) sent.after
  pub node : SendNode sent.term

-- ── what the sender's step comes to, by where the far end is
module _ (s w old : List ℕ) (sent : Sending) where
  abbrev pub sending_by : Outcome
  sending_by = sending (program_in s w) (config_in s w old) sent.place (process_as s w sent.before) (process_as s w sent.after) (message s sent.term) (end_as s w sent.over) (far_of s w old sent.over)

  -- ── the far end was given up
  abbrev pub unheard_by : Outcome
  unheard_by = unheard (config_in s w old) sent.place (process_as s w sent.before) (process_as s w sent.after) (message s sent.term)

  abbrev unheard_at : ℕ → Outcome
  unheard_at k = unheard (config_in s w old) sent.place (process_as s w sent.before) (process_as s w sent.after) (message_by s sent.term.second k)

  module _ {f : Option EndWords} (z : sent.term.kind ≡ send_channel_kind) (a : Sees s sent.before.held sent.term.second f) where
    pub unheard_none : f ≡ None → Carries s w old old NotOpen unheard_by
    unheard_none y = subst (λ k. Carries s w old old NotOpen (unheard_at k)) (sym z) (held_none a _ y)

    pub unheard_parts : {new : List ℕ} {r : OutcomeWords} {d : EndWords} → f ≡ Some d → Carries s w old new r (parting (config_in s w old) sent.place (process_as s w sent.after) (end_as s w d)) → Carries s w old new r unheard_by
    unheard_parts {new} {r} y c = subst (λ k. Carries s w old new r (unheard_at k)) (sym z) (held_some a _ y c)

  pub unheard_goes : {new : List ℕ} → send_unit_kind ≤ sent.term.kind → sent.term.kind ≤ send_label_kind → (sent.term.kind ≡ send_channel_kind → ⊥) → Becomes s w old new (replaced sent.place (process_as s w sent.after) (config_in s w old)) → Carries s w old new (Carried Nothing) unheard_by
  unheard_goes {new} l h z b = go sent.term.kind l h z
    where
      go : (k : ℕ) → 1 ≤ k → k ≤ 3 → (k ≡ 2 → ⊥) → Carries s w old new (Carried Nothing) (unheard_at k)
      go zero l h z = absurd (omega arith)
      go (suc zero) l h z = record { is = (refl, b) }
      go (suc (suc zero)) l h z = absurd (z refl)
      go (suc (suc (suc k))) l h z = record { is = (refl, b) }

  sends_nobody : {new : List ℕ} {o : OutcomeWords} {F : calculus.Far} → FarAs (name_at s) (plain_in s w) (process_in s w) (raw_in old) far.GivenUp F → Carries s w old new o unheard_by
      → Carries s w old new o (sending (program_in s w) (config_in s w old) sent.place (process_as s w sent.before) (process_as s w sent.after) (message s sent.term) (end_as s w sent.over) F)
  sends_nobody given_up c = c

  pub sends_unheard : {new : List ℕ} {o : OutcomeWords} → far.GivenUp ≡ far_raw s w old sent.over → Carries s w old new o unheard_by → Carries s w old new o sending_by
  sends_unheard f c = sends_nobody (far_as s w old sent.over far.GivenUp f) c

-- ── the rule
abbrev pub send_by : List ℕ → List ℕ → List ℕ → ℕ → ProcessWords → TermNode → Outcome
send_by s w old i p n = send (program_in s w) (config_in s w old) i (process_as s w p) (name_in s n.first) (message s n) (process_in s w n.third)

-- the process after it
abbrev pub sent_by : List ℕ → List ℕ → ProcessWords → TermNode → Process
sent_by s w p n = goes_on (process_as s w p) (process_in s w n.third) (after_send (program_in s w) (name_at s n.first) (message s n) (channels_of s w p.held))

module _ (s w old : List ℕ) (i : ℕ) (p : ProcessWords) (n : TermNode) {f : Option EndWords} (a : Sees s p.held n.first f) where
  pub sends_nothing : f ≡ None → Carries s w old old NotOpen (send_by s w old i p n)
  unfolding send
  sends_nothing q = held_none a _ q

  -- with the process after it as the calculus has it
  pub sends_over : {e : EndWords} {new : List ℕ} {o : OutcomeWords} → f ≡ Some e
      → Carries s w old new o (sending (program_in s w) (config_in s w old) i (process_as s w p) (sent_by s w p n) (message s n) (end_as s w e) (far_of s w old e)) → Carries s w old new o (send_by s w old i p n)
  unfolding send
  sends_over q c = held_some a _ q c

  -- and as its words are
  pub sends_on : {e : EndWords} {h : Held} {new : List ℕ} {o : OutcomeWords} → f ≡ Some e → SentHeld s w p.held n h
      → Carries s w old new o (sending_by s w old (record { place = i; before = p; after = values.running_on n.third h p; term = n; over = e })) → Carries s w old new o (send_by s w old i p n)
  sends_on {e} {new = new} {o = o} q g c =
      sends_over q
      (subst (λ l. Carries s w old new o (sending (program_in s w) (config_in s w old) i (process_as s w p) (goes_on (process_as s w p) (process_in s w n.third) l) (message s n) (end_as s w e) (far_of s w old e)))
      g.is c)
