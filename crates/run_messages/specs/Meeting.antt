-- "A matching send and recv on one channel step together": a process that receives, and what its sender's message does to it.
use Prim.Native.Nat.{◌+◌, ◌<◌, ◌≤◌, suc, zero, ℕ}
use Rattle.std.specs.Prelude.{Option as CodeOption, Some, None}
use Rattle.calculus.specs.Configuration.{Config, End, Holder, Process, end, goes_on, halt, replaced}
use Rattle.calculus.specs.Named.{lookup}
use Rattle.calculus.specs.Program.{Program}
use Rattle.calculus.specs.Steps.{Message, Outcome, Received, Turn, after_receive, alone, both_to, bound, by_branch, caught_by, handler_starts, leaves_out, meeting, not_open, on_channel, on_close, on_label, onward, passed_end, passed_type, receives, sending, sends, takes, takes_channel, takes_close, takes_label, turn_of}
use Rattle.calculus.specs.Types.{passing, unfolded}
use Rattle.check_contexts.specs.Halves.{append-nil}
use Rattle.check_contexts.specs.Held.{Brings, Drops, EndIn, FoundIn, HeldIn, Sees, channels_of, end_found}
use Rattle.check_types.specs.Branches.{BranchIs}
use Rattle.notation.specs.Bytes.{same}
use Rattle.notation.specs.Reader.{label_in, name_in}
use Rattle.notation.specs.Token.{name_at}
use Rattle.notation.specs.Tree.{Name}
use Rattle.notation.specs.declared.reading.TermNode.{TermNode}
use Rattle.read_tables.specs.Decode.{process_in}
use Rattle.read_tables.specs.Program.{plain_in, program_in}
use Rattle.read_tables.specs.Roots.{branches_in}
use Rattle.read_tables.specs.Search.{place_of}
use Rattle.run_messages.specs.Kinds.{recv_channel_kind, recv_label_kind, recv_over, recv_unit_kind, send_channel_kind, send_label_kind, send_unit_kind}
use Rattle.run_alone.specs.Changes.{places_after, places_in, stored, then}
use Rattle.run_alone.specs.Forwarding.{far_of}
use Rattle.run_alone.specs.Parting.{end_as}
use Rattle.run_alone.specs.Run.{Becomes, Carries, ProcessOf, RunOf, StandsAt, config_in, doing_as, process_as}
use Rattle.run_alone.specs.declared.outcome.Outcome.TheVariants.{NotOpen}
use Rattle.run_alone.specs.declared.outcome.Outcome.{Outcome as OutcomeWords}
use Rattle.run_messages.specs.Messages.{Heard, MovesOn, SendNode, TypeAfter, heard, message, message_by, parts_by, turn_by}
use Rattle.run_messages.specs.declared.messages.Party.{Party}
use Rattle.run_messages.specs.declared.messages.Sending.{Sending}
use Rattle.run_words.specs.Raw.{Bounded, link_of, raw_in, side_of}
use Rattle.run_words.specs.Values.{Changed, end_in}
use Rattle.run_words.specs.declared.records.End.{End as EndWords}
use Rattle.run_words.specs.declared.records.Held.{Held}
use Rattle.run_words.specs.declared.records.Process.{Process as ProcessWords}
use Rattle.std.specs.Prelude.{length, set, Bool, cond, false, true, List, [], ◌++◌, ◌∷◌, ◌≡◌}
use Rattle.std.proofs.Common.{length-set, ◌∙◌, ap, subst, sym}
use Rattle.std.proofs.Math.Option.{Option, map, none, some}
use Rattle.std.proofs.Math.Path.{refl}
use native.Mathlib.Omega.{arith}
use Rattle.calculus.specs.Configuration as calculus
use Rattle.run_words.specs.Operations as raw
use Rattle.run_words.specs.Values as values
use Rattle.run_messages.specs.Sending.{sending_by}

-- a process that receives stands at its place, and the numbers of its term are those of the text
pub record ReceiverIn (s w ws : List ℕ) (to : Party) : Type 0 where
  pub stands : StandsAt s w ws to.place to.process
  pub parts : parts_by s w to.term to.term.kind

pub parts_at : {s w ws : List ℕ} {to : Party} → ReceiverIn s w ws to → {k : ℕ} → to.term.kind ≡ k → parts_by s w to.term k
parts_at {s} {w} {to = to} r e = subst (parts_by s w to.term) e r.parts

-- ── two processes change
abbrev pub both_set : Config → ℕ → Process → ℕ → Process → Config
both_set C i P j Q = replaced j Q (replaced i P C)

module _ (s w old mid : List ℕ) (t : RunOf s w old) (i j : ℕ) (q r : ProcessWords) (o : ProcessOf s w (length (raw_in old).processes) q) (u : ProcessOf s w (length (raw_in old).processes) r)
    (c : Changed old mid (raw.on_processes (λ l. set l i (values.process_in q)) (raw_in old))) (b : Bounded (raw_in mid)) where
  pub first_set : Becomes s w old mid (replaced i (process_as s w q) (config_in s w old))
  first_set = stored s w old mid t i q o c b

  pub first_many : length (raw_in mid).processes ≡ length (raw_in old).processes
  first_many = places_after first_set ∙ length-set (config_in s w old).processes i (process_as s w q) ∙ places_in s w old

  pub second_of : ProcessOf s w (length (raw_in mid).processes) r
  second_of = subst (λ n. ProcessOf s w n r) (sym first_many) u

  pub both_set_lem : (new : List ℕ) → Changed mid new (raw.on_processes (λ l. set l j (values.process_in r)) (raw_in mid)) → Bounded (raw_in new) → Becomes s w old new (both_set (config_in s w old) i (process_as s w q) j (process_as s w r))
  both_set_lem new d k = then (replaced j (process_as s w r)) first_set (stored s w mid new first_set.run j r second_of d k)

-- ── with the end that was passed, if it was found and the receiver's own was
pub record BringsOver (s w : List ℕ) (h : Held) (own passed : CodeOption EndWords) (at : ℕ) (r : Held) : Type 0 where
  pub is : channels_of s w r ≡ channels_of s w h ++ bound (program_in s w) (name_at s at) (end_found s w own) (end_found s w passed)
  pub fits : HeldIn s w r

module _ (s w : List ℕ) (h : Held) (t : HeldIn s w h) (own passed : CodeOption EndWords) (at : ℕ) where
  brings_none : bound (program_in s w) (name_at s at) (end_found s w own) (end_found s w passed) ≡ [] → BringsOver s w h own passed at h
  brings_none e = record { is = sym (ap (λ l. channels_of s w h ++ l) e ∙ append-nil (channels_of s w h)); fits = t }

  pub brings_unheld : own ≡ None → BringsOver s w h own passed at h
  brings_unheld e = brings_none (ap (λ (f : CodeOption EndWords). bound (program_in s w) (name_at s at) (end_found s w f) (end_found s w passed)) e)

  module _ {e : EndWords} (z : own ≡ Some e) where
    pub brings_nothing : passed ≡ None → BringsOver s w h own passed at h
    brings_nothing y = brings_none λ j. bound (program_in s w) (name_at s at) (end_found s w (z j)) (end_found s w (y j))

    pub brings_over : {d : EndWords} {node : ℕ} {r : Held} → passed ≡ Some d → TypeAfter s w (passed_type (plain_in s w d.node) (passing (unfolded (program_in s w).types (plain_in s w e.node)))) node → Brings h at d.side node d.channel r
        → BringsOver s w h own passed at r
    brings_over {d} y u b = record {
      is = b.is s w ∙ ap (λ A. channels_of s w h ++ ((name_at s at, end (side_of d.side) d.channel A) ∷ [])) u.is
          ∙ sym λ j. channels_of s w h ++ bound (program_in s w) (name_at s at) (end_found s w (z j)) (end_found s w (y j));
      fits = b.fits s w u.type t;
    }

pub found_in : {s w : List ℕ} {f : CodeOption EndWords} {d : EndWords} → f ≡ Some d → FoundIn s w f → EndIn s w (end_in d) × (d.side < 2)
found_in {s} {w} e o = subst (FoundIn s w) e o

-- ── the label of a send is left out: the sender goes on where the receiver has a link, else it stays
abbrev pub sender_on : Option ℕ → ℕ → Process → Config → Config
sender_on none i q C = C
sender_on (some h) i q C = replaced i q C

module _ (s w old mid : List ℕ) (i : ℕ) (q : Process) where
  -- it goes on or stays, by the word of the link
  pub stays_on : (link : ℕ) → link ≡ 0 → RunOf s w old → Becomes s w old old (sender_on (link_of link) i q (config_in s w old))
  stays_on link z t = record { is = ap (λ l. sender_on (link_of l) i q (config_in s w old)) (sym z); run = t; past = refl; long = refl }

  pub goes_on_lem : (link : ℕ) → (link ≡ 0 → ⊥) → Becomes s w old mid (replaced i q (config_in s w old)) → Becomes s w old mid (sender_on (link_of link) i q (config_in s w old))
  goes_on_lem zero z b = absurd (z refl)
  goes_on_lem (suc h) z b = b

  on_many : (link : Option ℕ) → length (sender_on link i q (config_in s w old)).processes ≡ length (raw_in old).processes
  on_many none = places_in s w old
  on_many (some h) = length-set (config_in s w old).processes i q ∙ places_in s w old

  -- a process by value may stand at a place as before
  pub stand_on : (link : Option ℕ) → Becomes s w old mid (sender_on link i q (config_in s w old)) → {j : ℕ} {r : ProcessWords} → j < length (raw_in old).processes → ProcessOf s w (length (raw_in old).processes) r
      → (j < length (raw_in mid).processes) × ProcessOf s w (length (raw_in mid).processes) r
  stand_on link b {j} {r} l o = let many = sym (places_after b ∙ on_many link) in (subst (λ n. j < n) many l, subst (λ n. ProcessOf s w n r) many o)

  -- and then the receiver acts as by a raise
  pub caught_on : (new : List ℕ) (o : OutcomeWords) (link : Option ℕ) (j : ℕ) (r : Process) → Becomes s w old mid (sender_on link i q (config_in s w old)) → Carries s w mid new o (caught_by link (config_in s w mid) j r) → Carries s w old new o (caught_by link (replaced i q (config_in s w old)) j r)
  caught_on new o none j r b c = record { is = (c.is.0, then halt b c.is.1) }
  caught_on new o (some h) j r b c = record { is = (c.is.0, then (handler_starts j r) b c.is.1) }

-- ── the receiver afterwards
module _ (s w old : List ℕ) (sent : Sending) (to : Party) where
  abbrev pub both_by : Received → Outcome
  both_by o = both_to (config_in s w old) sent.place (process_as s w sent.after) to.place o

  -- the sender is as its send left it, and the receiver goes on with the term at a pointer and what it holds now
  abbrev pub both_on : ℕ → Held → Outcome
  both_on pointer held = both_by (takes (process_as s w (values.running_on pointer held to.process)))

  -- the receiver leaves out the label, and folds up with what it holds now
  abbrev pub left_out : Held → Outcome
  left_out held = both_by (leaves_out (process_as s w (values.folding_up held to.process)))

  abbrev receiver : Process
  receiver = process_as s w to.process

  -- the message of the sender's node, were it of the kind k
  abbrev over : ℕ → List (Name × End)
  over k = onward (program_in s w) (message_by s sent.term.second k) (name_at s to.name) (channels_of s w to.process.held)

  module _ {new : List ℕ} {o : OutcomeWords} (h : Held) (pointer : ℕ) (b : Carries s w old new o (both_on pointer h)) where
    -- the receiver has the channels of l
    with_held : (l : _) → channels_of s w h ≡ l → Carries s w old new o (both_by (takes (goes_on receiver (process_in s w pointer) l)))
    with_held l e = subst (λ m. Carries s w old new o (both_by (takes (goes_on receiver (process_in s w pointer) m)))) e b

    pub hears_close : Drops s to.process.held to.name h → Carries s w old new o (both_by (takes_close (on_close (process_in s w pointer)) (name_at s to.name) receiver))
    hears_close d = with_held _ (d.is w)

    pub hears_channel : {name : ℕ} {f g : CodeOption EndWords} {m : Held} → sent.term.kind ≡ send_channel_kind → Sees s sent.before.held sent.term.second f → Sees s to.process.held to.name g
        → MovesOn s w to.process.held sent.term to.name m → BringsOver s w m g f name h
        → Carries s w old new o (both_by (takes_channel (program_in s w) (name_in s sent.term.second) (on_channel (name_in s name) (process_in s w pointer)) (name_at s to.name) (lookup (name_at s sent.term.second) (channels_of s w sent.before.held)) receiver))
    hears_channel {name} z f g c d =
        with_held _ (d.is ∙ λ j. (c.is ∙ ap over z) j ++ bound (program_in s w) (name_at s name) (sym (g.is w) j) (sym (f.is w) j))

  -- a label: by its branch, with what the receiver holds now
  module _ {e n : ℕ} {k : CodeOption ℕ} (h : Held) (y : sent.term.kind ≡ send_label_kind) (f : BranchIs s w sent.term.second e n k) (c : MovesOn s w to.process.held sent.term to.name h) where
    abbrev label_taken : Received
    label_taken = takes_label (program_in s w) (label_in s sent.term.second) (on_label (branches_in s w e n)) (name_at s to.name) receiver

    by_branch_lem : (r : CodeOption ℕ) → k ≡ r → by_branch (map (λ x. process_in s w x) (place_of r)) receiver (channels_of s w h) ≡ label_taken
    by_branch_lem r z = sym λ j. by_branch ((f.is ∙ ap (λ v. map (λ x. process_in s w x) (place_of v)) z) j) receiver (sym (c.is ∙ ap over y) j)

    module _ {new : List ℕ} {o : OutcomeWords} where
      pub hears_label : (pointer : ℕ) → k ≡ Some pointer → Carries s w old new o (both_on pointer h) → Carries s w old new o (both_by label_taken)
      hears_label pointer z b = subst (λ v. Carries s w old new o (both_by v)) (by_branch_lem (Some pointer) z) b

      pub hears_nothing : k ≡ None → Carries s w old new o (left_out h) → Carries s w old new o (both_by label_taken)
      hears_nothing z b = subst (λ v. Carries s w old new o (both_by v)) (by_branch_lem None z) b

-- a process that receives on the channel of the message, whatever its name for it
abbrev pub met_by : Program → Config → ℕ → Process → Process → Message → Holder → Turn → Outcome
met_by p C i q q' m h (sends c m' P) = not_open
met_by p C i q q' m h (receives c v) = both_to C i q' h.place (after_receive p m v h.name (passed_end m q.held) h.process)
met_by p C i q q' m h alone = not_open

module _ (p : Program) (C : Config) (i : ℕ) (q q' : Process) (m : Message) (h : Holder) where
  pub meeting_heard : (T : Turn) → meeting p C i q q' m h T ≡ met_by p C i q q' m h (heard h.name T)
  meeting_heard (sends c m' P) = go (same c.name h.name)
    where
      go : (b : Bool) → not_open ≡ met_by p C i q q' m h (cond b (sends c m' P) alone)
      go true = refl
      go false = refl
  meeting_heard (receives c v) = go (same c.name h.name)
    where
      go : (b : Bool) → cond b (both_to C i q' h.place (after_receive p m v h.name (passed_end m q.held) h.process)) not_open ≡ met_by p C i q q' m h (cond b (receives c v) alone)
      go true = refl
      go false = refl
  meeting_heard alone = refl

-- ── by the kinds of the two nodes
module _ (s w : List ℕ) (C : Config) (i : ℕ) (q q' : Process) (h : Holder) (n t : TermNode) where
  abbrev met_kinds : ℕ → ℕ → Outcome
  met_kinds k l = met_by (program_in s w) C i q q' (message_by s n.second k) h (turn_by s w t l)

  -- a recv of another kind
  pub met_other : (k l : ℕ) → 1 ≤ k → k ≤ 3 → (l ≡ k + 5 → ⊥) → met_kinds k l ≡ not_open
  unfolding after_receive
  met_other k zero a b z = refl
  met_other k (suc zero) a b z = refl
  met_other k (suc (suc zero)) a b z = refl
  met_other k (suc (suc (suc zero))) a b z = refl
  met_other k (suc (suc (suc (suc zero)))) a b z = refl
  met_other k (suc (suc (suc (suc (suc zero))))) a b z = refl
  met_other zero (suc (suc (suc (suc (suc (suc zero)))))) a b z = absurd (omega arith)
  met_other (suc zero) (suc (suc (suc (suc (suc (suc zero)))))) a b z = absurd (z refl)
  met_other (suc (suc zero)) (suc (suc (suc (suc (suc (suc zero)))))) a b z = refl
  met_other (suc (suc (suc k))) (suc (suc (suc (suc (suc (suc zero)))))) a b z = refl
  met_other zero (suc (suc (suc (suc (suc (suc (suc zero))))))) a b z = absurd (omega arith)
  met_other (suc zero) (suc (suc (suc (suc (suc (suc (suc zero))))))) a b z = refl
  met_other (suc (suc zero)) (suc (suc (suc (suc (suc (suc (suc zero))))))) a b z = absurd (z refl)
  met_other (suc (suc (suc k))) (suc (suc (suc (suc (suc (suc (suc zero))))))) a b z = refl
  met_other zero (suc (suc (suc (suc (suc (suc (suc (suc zero)))))))) a b z = absurd (omega arith)
  met_other (suc zero) (suc (suc (suc (suc (suc (suc (suc (suc zero)))))))) a b z = refl
  met_other (suc (suc zero)) (suc (suc (suc (suc (suc (suc (suc (suc zero)))))))) a b z = refl
  met_other (suc (suc (suc k))) (suc (suc (suc (suc (suc (suc (suc (suc zero)))))))) a b z = let y : k ≡ 0 = omega arith in absurd (z (omega arith))
  met_other k (suc (suc (suc (suc (suc (suc (suc (suc (suc l))))))))) a b z = refl

-- ── what the sender's step comes to, where the far end is at a process: t is the node of its turn
module _ (s w old : List ℕ) (i : ℕ) (q q' : Process) (n : TermNode) (e : EndWords) (h : Holder) (t : TermNode) (f : far_of s w old e ≡ calculus.at_process h) (g : heard h.name (turn_of h.process.doing) ≡ turn_by s w t t.kind) where
  abbrev over_by : Outcome
  over_by = sending (program_in s w) (config_in s w old) i q q' (message s n) (end_as s w e) (far_of s w old e)

  over_as : over_by ≡ met_by (program_in s w) (config_in s w old) i q q' (message s n) h (turn_by s w t t.kind)
  over_as =
      ap (sending (program_in s w) (config_in s w old) i q q' (message s n) (end_as s w e)) f
      ∙ meeting_heard (program_in s w) (config_in s w old) i q q' (message s n) h (turn_of h.process.doing)
      ∙ ap (met_by (program_in s w) (config_in s w old) i q q' (message s n) h) g

  pub over_other : send_unit_kind ≤ n.kind → n.kind ≤ send_label_kind → (t.kind ≡ n.kind + recv_over → ⊥) → Carries s w old old NotOpen over_by
  over_other a b z = subst (Carries s w old old NotOpen) (sym (over_as ∙ met_other s w (config_in s w old) i q q' h n t n.kind t.kind a b z)) (record { is = (refl, refl) })

-- where it receives
module _ (s w old : List ℕ) (sent : Sending) where
  abbrev pub holder_by : Party → Holder
  holder_by to = record { place = to.place; process = process_as s w to.process; name = name_at s to.name }

  abbrev pub heard_by : Party → Outcome
  heard_by to = met_by (program_in s w) (config_in s w old) sent.place (process_as s w sent.before) (process_as s w sent.after) (message s sent.term) (holder_by to) (turn_by s w to.term to.term.kind)

  abbrev kinds_by : Party → ℕ → ℕ → Outcome
  kinds_by to k l = met_by (program_in s w) (config_in s w old) sent.place (process_as s w sent.before) (process_as s w sent.after) (message_by s sent.term.second k) (holder_by to) (turn_by s w to.term l)

  module _ (to : Party) (f : far_of s w old sent.over ≡ calculus.at_process (holder_by to)) (g : Heard s w to.name (doing_as s w to.process.kind to.process.pointer) to.term) where
    meets_as : (sending_by s w old sent) ≡ heard_by to
    meets_as = over_as s w old sent.place (process_as s w sent.before) (process_as s w sent.after) sent.term sent.over (holder_by to) to.term f g.is

    pub meets_other : SendNode sent.term → (to.term.kind ≡ sent.term.kind + recv_over → ⊥) → Carries s w old old NotOpen (sending_by s w old sent)
    meets_other a z = over_other s w old sent.place (process_as s w sent.before) (process_as s w sent.after) sent.term sent.over (holder_by to) to.term f g.is a.low a.high z

    pub meets : {new : List ℕ} {o : OutcomeWords} → Carries s w old new o (heard_by to) → Carries s w old new o (sending_by s w old sent)
    meets {new} {o} c = subst (Carries s w old new o) (sym meets_as) c

  -- the receiver's node is of the kind that the message wants
  module _ (to : Party) {new : List ℕ} {o : OutcomeWords} where
    kinds : (k l : ℕ) → sent.term.kind ≡ k → to.term.kind ≡ l → Carries s w old new o (kinds_by to k l) → Carries s w old new o (heard_by to)
    kinds k l a b c = subst (λ m. Carries s w old new o (kinds_by to m to.term.kind)) (sym a) (subst (λ m. Carries s w old new o (kinds_by to k m)) (sym b) c)

    pub hears_kind_close : sent.term.kind ≡ send_unit_kind → to.term.kind ≡ recv_unit_kind → Carries s w old new o (both_by s w old sent to (takes_close (on_close (process_in s w to.term.third)) (name_at s to.name) (process_as s w to.process))) → Carries s w old new o (heard_by to)
    unfolding after_receive
    hears_kind_close a b c = kinds 1 6 a b c

    pub hears_kind_channel : sent.term.kind ≡ send_channel_kind → to.term.kind ≡ recv_channel_kind
        → Carries s w old new o (both_by s w old sent to (takes_channel (program_in s w) (name_in s sent.term.second) (on_channel (name_in s to.term.second) (process_in s w to.term.third)) (name_at s to.name) (lookup (name_at s sent.term.second) (channels_of s w sent.before.held)) (process_as s w to.process)))
        → Carries s w old new o (heard_by to)
    unfolding after_receive
    hears_kind_channel a b c = kinds 2 7 a b c

    pub hears_kind_label : sent.term.kind ≡ send_label_kind → to.term.kind ≡ recv_label_kind
        → Carries s w old new o (both_by s w old sent to (takes_label (program_in s w) (label_in s sent.term.second) (on_label (branches_in s w to.term.second to.term.third)) (name_at s to.name) (process_as s w to.process))) → Carries s w old new o (heard_by to)
    unfolding after_receive
    hears_kind_label a b c = kinds 3 8 a b c
