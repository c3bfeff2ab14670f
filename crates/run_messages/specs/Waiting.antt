-- A recv that waits for a send, or a send for a recv, told from the words of the run.
use Rattle.std.specs.Prelude.{ℕ, ◌+◌, ◌≤◌, ◌<◌, ◌≡◌, refl, List, ◌⊎◌, Bool, true, false, not, eqb, length}
use Rattle.std.specs.Prelude.{Option as CodeOption, Some, None}
use Rattle.std.proofs.Common.{sym, ◌∙◌, ap, subst, arith}
use Rattle.std.proofs.lemmas.Bool.{false≢true}
use Rattle.std.proofs.Math.Option.{Option, some}
use Rattle.std.proofs.Math.ListN.{get_elem?}
use Rattle.notation.specs.Limits.{held_limit}
use Rattle.notation.specs.Reader.{name_in}
use Rattle.notation.specs.Token.{name_at}
use Rattle.notation.specs.declared.reading.TermNode.{TermNode}
use Rattle.calculus.specs.Configuration as calculus
use Rattle.calculus.specs.Steps.{receive}
use Rattle.read_tables.specs.Program.{program_in}
use Rattle.read_tables.specs.Roots.{ProcessIn}
use Rattle.run_words.specs.ListLaws.{all_at}
use Rattle.run_words.specs.Raw.{RawProcess, raw_in, process_of, process_row, held_count, folding_kind, side_radix}
use Rattle.run_words.specs.SliceLaws.{process_at_lem, held_few}
use Rattle.run_words.specs.Operations.{first}
use Rattle.run_words.specs.Values.{end_in, held_in, value_of}
use Rattle.run_words.specs.Values as values
use Rattle.run_words.specs.declared.records.End.{End as EndWords}
use Rattle.run_words.specs.declared.records.Far.TheVariants as far
use Rattle.run_words.proofs.Slices.{value_is}
use Rattle.check_contexts.specs.Held.{is_named, Sees}
use Rattle.check_contexts.specs.Found.{sees_there, sees_nothing}
use Rattle.run_alone.specs.Run.{config_in, doing_as, process_as, RunOf, StandsAt, Carries}
use Rattle.run_alone.specs.Changes.{stands_at}
use Rattle.run_alone.specs.Forwarding.{far_of, far_raw, far_holder, far_place, far_position}
use Rattle.run_alone.specs.declared.outcome.Outcome.TheVariants.{NotOpen}
use Rattle.run_messages.specs.Kinds.{idle_kind, send_label_kind, send_unit_kind, recv_over}
use Rattle.run_messages.specs.Messages.{Heard}
use Rattle.run_messages.specs.Meeting.{over_other}
use Rattle.run_messages.specs.Receiving.{answers_not, receives_on}
use Rattle.run_messages.specs.Sending.{send_by, sent_by, sends_over}

-- where the answer is yes, the recv is not open
pub record Awaits (s w ws : List ℕ) (i c : ℕ) (r : Bool) : Type 0 where
  pub is : r ≡ true → Carries s w ws ws NotOpen (receive (program_in s w) (config_in s w ws) i (process_as s w (value_of ws i)) (name_in s c))

-- the same of the send n
pub record AwaitsRecv (s w ws : List ℕ) (i : ℕ) (n : TermNode) (r : Bool) : Type 0 where
  pub is : r ≡ true → Carries s w ws ws NotOpen (send_by s w ws i (value_of ws i) n)

-- a process has the far end of the channel c of the process at a place, and its turn there is of this kind
pub record PartnerAt (s w ws : List ℕ) (i c kind : ℕ) : Type 0 where
  pub end : EndWords
  pub sees : Sees s (value_of ws i).held c (Some end)
  pub place : ℕ
  pub name : ℕ
  pub node : TermNode
  pub far : far_of s w ws end ≡ calculus.at_process (record { place = place; process = process_as s w (value_of ws place); name = name_at s name })
  pub turn : Heard s w name (doing_as s w (value_of ws place).kind (value_of ws place).pointer) node
  pub is : node.kind ≡ kind

-- the kind of its turn there is none from first to last
pub record PartnerOther (s w ws : List ℕ) (i c first last : ℕ) : Type 0 where
  pub kind : ℕ
  pub partner : PartnerAt s w ws i c kind
  pub other : first ≤ kind → kind ≤ last → ⊥

-- where the answer is yes, that is so
pub record AwaitsOther (s w ws : List ℕ) (i c first last : ℕ) (r : Bool) : Type 0 where
  pub is : r ≡ true → PartnerOther s w ws i c first last

pub awaits_nobody : {s w ws : List ℕ} {i c first last : ℕ} → AwaitsOther s w ws i c first last false
awaits_nobody = record { is = λ z. absurd (false≢true z) }

pub awaits_kind : {s w ws : List ℕ} {i c first last kind : ℕ} {r : Bool} → PartnerAt s w ws i c kind → (r ≡ true → first ≤ kind → kind ≤ last → ⊥) → AwaitsOther s w ws i c first last r
awaits_kind {kind = kind} p o = record { is = λ z. record { kind = kind; partner = p; other = o z } }

-- ── what the words of a process say, as if it were loaded
pub held_there_lem : (ws : List ℕ) (i : ℕ) → held_count ws i ≤ held_limit → (process_of (process_row ws i)).held ≡ held_in (value_of ws i).held
held_there_lem ws i h = ap (λ (p : RawProcess). p.held) (value_is ws i h)

module _ (s ws : List ℕ) (i at : ℕ) (h : held_count ws i ≤ held_limit) where
  pub seen_there : (k : ℕ) (e : EndWords) → first (is_named s at) (process_of (process_row ws i)).held ≡ Some k → get_elem? (process_of (process_row ws i)).held k ≡ some (end_in e) → e.side < side_radix
      → Sees s (value_of ws i).held at (Some e)
  seen_there k e f g b =
      let q = sym (held_there_lem ws i h) in
      sees_there s (value_of ws i).held at k (ap (first (is_named s at)) q ∙ f) e (ap (λ l. get_elem? l k) q ∙ g) b

  pub seen_nothing : first (is_named s at) (process_of (process_row ws i)).held ≡ None → Sees s (value_of ws i).held at None
  seen_nothing f = sees_nothing s (value_of ws i).held at (ap (first (is_named s at)) (sym (held_there_lem ws i h)) ∙ f)

module _ {s w ws : List ℕ} (t : RunOf s w ws) (i : ℕ) (b : i < length (raw_in ws).processes) where
  pub value_at : get_elem? (raw_in ws).processes i ≡ some (values.process_in (value_of ws i))
  value_at = process_at_lem ws i b ∙ ap {B = Option RawProcess} some (value_is ws i (held_few ws i t.bounds b))

  pub value_stands : StandsAt s w ws i (value_of ws i)
  value_stands = stands_at s w ws i (value_of ws i) t value_at (all_at _ (raw_in ws).processes i t.bounds.processes value_at) (held_few ws i t.bounds b)

  pub value_term : (kind pointer : ℕ) → kind ≡ (value_of ws i).kind → pointer ≡ (value_of ws i).pointer → (kind ≡ folding_kind → ⊥) → ProcessIn s w pointer
  value_term kind pointer k p z = subst (ProcessIn s w) (sym p) (value_stands.is.term (λ e. z (k ∙ e)))

-- ── the partner is as its words say
module _ {s w ws : List ℕ} (t : RunOf s w ws) (e : EndWords) {j k : ℕ} (g : far.Process j k ≡ far_raw s w ws e) where
  pub partner_there : j < length (raw_in ws).processes
  partner_there = far_place s w ws e j k (sym g)

  pub partner_holds : k < held_count ws j
  partner_holds = far_position s w ws e j k (sym g) (value_of ws j) (value_at t j partner_there)

  pub partner_few : held_count ws j ≤ held_limit
  partner_few = held_few ws j t.bounds partner_there

  pub partner_turns : {i c : ℕ} → Sees s (value_of ws i).held c (Some e) → (y : EndWords) (n : TermNode) (kind pointer : ℕ) → get_elem? (process_of (process_row ws j)).held k ≡ some (end_in y)
      → kind ≡ (value_of ws j).kind → pointer ≡ (value_of ws j).pointer → Heard s w y.name (doing_as s w kind pointer) n → PartnerAt s w ws i c n.kind
  partner_turns a y n kind pointer h u v m =
      let there : get_elem? (held_in (value_of ws j).held) k ≡ some (end_in y) = ap (λ l. get_elem? l k) (sym (held_there_lem ws j partner_few)) ∙ h in
      record {
        end = e;
        sees = a;
        place = j;
        name = y.name;
        node = n;
        far = far_holder s w ws e j k (sym g) (value_of ws j) (value_at t j partner_there) y there;
        turn = subst (λ l. Heard s w y.name (doing_as s w l (value_of ws j).pointer) n) u (subst (λ l. Heard s w y.name (doing_as s w kind l) n) v m);
        is = refl;
      }

-- ── the recv or the send waits for it
pub awaits_so : {s w ws : List ℕ} {i c : ℕ} {r : Bool} → AwaitsOther s w ws i c send_unit_kind send_label_kind r → Awaits s w ws i c r
awaits_so {s} {w} {ws} {i} {c} o = record {
  is = λ z.
      let q = o.is z in
      let p = q.partner in
      receives_on s w ws i (value_of ws i) c p.sees refl
      (answers_not s w ws i (value_of ws i) c p.end p.place p.name (value_of ws p.place) p.node p.far p.turn (λ a b. q.other (omega arith) (omega arith)));
}

pub awaits_recv_so : {s w ws : List ℕ} {i kind : ℕ} {r : Bool} (n : TermNode) → kind ≡ n.kind + recv_over → AwaitsOther s w ws i n.first kind kind r → send_unit_kind ≤ n.kind → n.kind ≤ send_label_kind → AwaitsRecv s w ws i n r
awaits_recv_so {s} {w} {ws} {i} n e o low high = record {
  is = λ z.
      let q = o.is z in
      let p = q.partner in
      sends_over s w ws i (value_of ws i) n p.sees refl
      (over_other s w ws i (process_as s w (value_of ws i)) (sent_by s w (value_of ws i) n) n p.end _ p.node p.far p.turn.is low high (λ y. q.other (omega arith) (omega arith)));
}
