-- A process whose term acts on a channel: the far end of that channel, or of whatever end has its far end there.
use Rattle.std.specs.Prelude.{ℕ, ◌≡◌, refl, List}
use Rattle.std.specs.Prelude.{Option as CodeOption, Some, None}
use Rattle.calculus.specs.Configuration.{Holder}
use Rattle.calculus.specs.Configuration as calculus
use Rattle.notation.specs.Token.{name_at}
use Rattle.notation.specs.declared.reading.TermNode.{TermNode}
use Rattle.run_alone.specs.Forwarding.{far_holder, far_of, far_raw}
use Rattle.run_alone.specs.Run.{doing_as, process_as, StandsAt}
use Rattle.run_messages.specs.Kinds.{idle_kind}
use Rattle.run_messages.specs.Messages.{Heard, TurnOn, idle, idle_heard}
use Rattle.run_messages.specs.declared.messages.Party.{Party}
use Rattle.run_words.specs.Raw.{raw_in}
use Rattle.run_words.specs.Values.{end_in, held_in}
use Rattle.run_words.specs.Values as values
use Rattle.run_words.specs.declared.records.End.{End as EndWords}
use Rattle.run_words.specs.declared.records.Far.TheVariants as far
use Rattle.run_words.specs.declared.records.Process.{Process as ProcessWords}
use Rattle.std.proofs.Math.ListN.{get_elem?}
use Rattle.std.proofs.Math.Option.{some}

module _ (s w ws : List ℕ) where
  -- some far end is at a place and position
  pub record FarAt (j k : ℕ) : Type 0 where
    pub end : EndWords
    pub is : far_raw s w ws end ≡ far.Process j k

  abbrev pub holder_of : Party → Holder
  holder_of p = record { place = p.place; process = process_as s w p.process; name = name_at s p.name }

  -- the process there, and the node of its turn
  pub record PartyIn (j k : ℕ) (p : Party) : Type 0 where
    pub stands : StandsAt s w ws p.place p.process
    pub far : (e : EndWords) → far_raw s w ws e ≡ far.Process j k → far_of s w ws e ≡ calculus.at_process (holder_of p)
    pub turn : Heard s w p.name (doing_as s w p.process.kind p.process.pointer) p.term

  -- it has no turn
  pub record Idle (j k : ℕ) : Type 0 where
    pub party : Party
    pub is : PartyIn j k party
    pub idle : party.term.kind ≡ idle_kind

  abbrev pub PartyAt : ℕ → ℕ → CodeOption Party → Type 0
  PartyAt j k (Some p) = PartyIn j k p
  PartyAt j k None = Idle j k

  module _ {j k : ℕ} (r : ProcessWords) (u : StandsAt s w ws j r) (g : get_elem? (raw_in ws).processes j ≡ some (values.process_in r)) (y : EndWords) (h : get_elem? (held_in r.held) k ≡ some (end_in y)) where
    pub party_in : (n : TermNode) → Heard s w y.name (doing_as s w r.kind r.pointer) n → PartyIn j k (record { place = j; process = r; name = y.name; term = n })
    party_in n m = record { stands = u; far = λ e f. far_holder s w ws e j k f r g y h; turn = m }

    pub party_idle : TurnOn s w y.name (doing_as s w r.kind r.pointer) None → Idle j k
    party_idle e = record { party = record { place = j; process = r; name = y.name; term = idle }; is = party_in idle (idle_heard s w y.name e); idle = refl }
