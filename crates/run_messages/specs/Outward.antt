-- A send on a channel that the outside uses.
use Rattle.std.specs.Prelude.{◌+◌, ◌<◌, ◌≤◌, suc, ℕ, eqb, length, set, Bool, cond, false, true, List, [], ◌++◌, ◌∷◌, ◌≡◌, refl}
use Rattle.std.specs.Prelude.{Option as CodeOption, Some, None}
use Rattle.calculus.specs.Configuration.{Config, End, Outside, Process, one_more_given, outside_of, replaced, retyped_outside, with_given, with_outside}
use Rattle.calculus.specs.Steps.{Outcome, after_message, is_given_up, lacking, new_outside, outside_onward, passed_out, passed_type, sending, to_outside}
use Rattle.calculus.specs.Types.{passing, unfolded}
use Rattle.calculus.specs.declared.answers.Seen.TheVariants.{Close, Label, Passed}
use Rattle.check_contexts.specs.Halves.{append-nil}
use Rattle.check_contexts.specs.Held.{Sees}
use Rattle.notation.specs.Limits.{outside_numbers}
use Rattle.notation.specs.Reader.{name_in}
use Rattle.notation.specs.Token.{name_at}
use Rattle.read_tables.specs.Decode.{process_in}
use Rattle.read_tables.specs.Program.{plain_in, program_in}
use Rattle.read_tables.specs.Roots.{TypeIn}
use Rattle.run_messages.specs.Kinds.{send_channel_kind, send_label_kind, send_unit_kind}
use Rattle.run_alone.specs.Changes.{given, let_go_lem, passed_out_lem, retyped, then}
use Rattle.run_alone.specs.Forwarding.{far_as, far_of, far_raw}
use Rattle.run_alone.specs.Parting.{end_as, held_none, held_some}
use Rattle.run_alone.specs.Run.{Becomes, Carries, RunOf, config_in, process_as}
use Rattle.run_alone.specs.declared.outcome.Outcome.TheVariants.{Carried, Lacking, NotOpen}
use Rattle.run_alone.specs.declared.outcome.Outcome.{Outcome as OutcomeWords}
use Rattle.run_messages.specs.Messages.{TypeAfter, message, message_by}
use Rattle.run_messages.specs.declared.messages.Sending.{Sending}
use Rattle.run_words.specs.Decode.{decoded_outside}
use Rattle.run_words.specs.DecodeLaws.{FarAs, at_outside, at_process, decoded_far_outside, decoded_outside_lem, given_up}
use Rattle.run_words.specs.ListLaws.{all_at}
use Rattle.run_words.specs.Raw.{Bounded, RawConfig, RawOutside, RawProcess, raw_in, side_of}
use Rattle.run_words.specs.SearchLaws.{far_outside}
use Rattle.run_words.specs.Values.{Changed, outside_in}
use Rattle.run_words.specs.declared.records.End.{End as EndWords}
use Rattle.run_words.specs.declared.records.Far.{Far}
use Rattle.run_words.specs.declared.records.Outside.{Outside as OutsideWords}
use Rattle.theory_ends.specs.Onward.{outside_onward_is}
use Rattle.std.proofs.Common.{le-ltb, lt-ltb, ◌∙◌, ap, subst, sym, arith}
use Rattle.std.proofs.Math.ListN.{get_elem?}
use Rattle.std.proofs.Math.Option.{Option, some}
use Rattle.calculus.specs.Configuration as calculus
use Rattle.run_words.specs.Operations as raw
use Rattle.run_words.specs.declared.records.Far.TheVariants as far
use Rattle.run_messages.specs.Sending.{sending_by}

-- the outside's own channel over a channel place
abbrev pub outside_as : List ℕ → List ℕ → OutsideWords → Outside
outside_as s w o = decoded_outside (name_at s) (plain_in s w) (process_in s w) (outside_in o)

pub record OutsideIn (s w ws : List ℕ) (channel : ℕ) (o : OutsideWords) : Type 0 where
  pub there : outside_of channel (config_in s w ws).outside ≡ some (outside_as s w o)
  pub type : TypeIn s w o.node

module _ (s w old : List ℕ) (sent : Sending) where
  -- ── to the outside
  module _ (number : ℕ) where
    abbrev pub out_by : Outcome
    out_by = to_outside (program_in s w) (config_in s w old) sent.place (process_as s w sent.before) (process_as s w sent.after) (message s sent.term) (end_as s w sent.over) number

    abbrev out_at : ℕ → Outcome
    out_at k = to_outside (program_in s w) (config_in s w old) sent.place (process_as s w sent.before) (process_as s w sent.after) (message_by s sent.term.second k) (end_as s w sent.over) number

    module _ (mid : List ℕ) (b : Becomes s w old mid (replaced sent.place (process_as s w sent.after) (config_in s w old))) where
      pub out_close : (new : List ℕ) → sent.term.kind ≡ send_unit_kind → Changed mid new (raw.on_outside (raw.let_go sent.over.channel) (raw_in mid)) → Bounded (raw_in new) → Carries s w old new (Carried (Close number)) out_by
      out_close new z c k = subst (λ m. Carries s w old new (Carried (Close number)) (out_at m)) (sym z)
          (record { is = (refl, then (λ (D : Config). with_outside (calculus.let_go sent.over.channel D.outside) D) b (let_go_lem s w mid new b.run sent.over.channel c k)) })

    -- it moves on from its own type
    module _ (mid : List ℕ) (b : Becomes s w old mid (replaced sent.place (process_as s w sent.after) (config_in s w old))) {o : OutsideWords} (a : OutsideIn s w old sent.over.channel o)
        {node : ℕ} (u : TypeAfter s w (after_message (program_in s w) (message s sent.term) (plain_in s w o.node)) node) where
      abbrev over_at : ℕ → Config
      over_at k = with_outside (outside_onward (program_in s w) (message_by s sent.term.second k) sent.over.channel (config_in s w old).outside) (replaced sent.place (process_as s w sent.after) (config_in s w old))

      pub out_moved : (new : List ℕ) → Changed mid new (raw.on_outside (raw.changed_outside sent.over.channel (raw.retyped node)) (raw_in mid)) → Bounded (raw_in new) → Becomes s w old new (over_at sent.term.kind)
      out_moved new c k =
          subst (λ l. Becomes s w old new (with_outside l (replaced sent.place (process_as s w sent.after) (config_in s w old))))
          (ap (λ A. retyped_outside sent.over.channel A (config_in s w old).outside) u.is ∙ sym (outside_onward_is (program_in s w) (message s sent.term) sent.over.channel (config_in s w old).outside a.there))
          (then (λ (D : Config). with_outside (retyped_outside sent.over.channel (plain_in s w node) D.outside) D) b (retyped s w mid new b.run sent.over.channel node u.type c k))

      pub out_label : (new : List ℕ) → sent.term.kind ≡ send_label_kind → Changed mid new (raw.on_outside (raw.changed_outside sent.over.channel (raw.retyped node)) (raw_in mid)) → Bounded (raw_in new) → Carries s w old new (Carried (Label number sent.term.second)) out_by
      out_label new z c k = subst (λ m. Carries s w old new (Carried (Label number sent.term.second)) (out_at m)) (sym z) (record { is = (refl, subst (λ k. Becomes s w old new (over_at k)) z (out_moved new c k)) })

  -- the rule
  pub sends_out : {new : List ℕ} {o : OutcomeWords} (number : ℕ) → far_of s w old sent.over ≡ calculus.at_outside number → Carries s w old new o (out_by number) → Carries s w old new o (sending_by s w old sent)
  sends_out {new} {o} number f c = subst (λ F. Carries s w old new o (sending (program_in s w) (config_in s w old) sent.place (process_as s w sent.before) (process_as s w sent.after) (message s sent.term) (end_as s w sent.over) F)) (sym f) c

-- the node of a far end at the outside says its number
module _ (s w old : List ℕ) (e : EndWords) (k : ℕ) (o : OutsideWords) where
  pub out_number : far.Outside k ≡ far_raw s w old e → get_elem? (raw_in old).outside k ≡ some (outside_in o) → far_of s w old e ≡ calculus.at_outside o.number
  out_number f g = decoded_far_outside (name_at s) (plain_in s w) (process_in s w) (raw_in old) e.channel (side_of e.side) (plain_in s w e.node) k (sym f) g

  pub outside_own : RunOf s w old → far.Outside k ≡ far_raw s w old e → get_elem? (raw_in old).outside k ≡ some (outside_in o) → OutsideIn s w old e.channel o
  outside_own t f g = record {
    there = decoded_outside_lem (name_at s) (plain_in s w) (process_in s w) e.channel (raw_in old).outside k (far_outside (raw_in old) e.channel (side_of e.side) k (sym f)).2 g;
    type = all_at _ (raw_in old).outside k t.outside g;
  }

-- what is given up, in numbers and in the calculus
pub given_up_so : (s w old : List ℕ) (d : EndWords) (f : Far) → f ≡ far_raw s w old d → raw.was_given_up f ≡ is_given_up (far_of s w old d)
given_up_so s w old d f e = go f (far_as s w old d f e)
  where
    go : (f : Far) {F : calculus.Far} → FarAs (name_at s) (plain_in s w) (process_in s w) (raw_in old) f F → raw.was_given_up f ≡ is_given_up F
    go (far.Process j l) (at_process g h) = refl
    go (far.Outside j) (at_outside g) = refl
    go far.GivenUp given_up = refl

-- ── a channel is passed out
-- the outside's channels and the numbers given, once the end d was passed out; the outside lets go at once of one that was given up
abbrev pub numbered : Config → End → Bool → Config
numbered C d gone = one_more_given (with_outside (C.outside ++ cond gone [] (record { number = C.given; channel = d.channel; type = d.type } ∷ [])) C)

module _ (s w old : List ℕ) (t : RunOf s w old) (m : ℕ) (e : m ≡ (raw_in old).given) (d : EndWords) where
  module _ (mid : List ℕ) (k : ℕ) (y : k ≡ m + 1) (c : Changed old mid (raw.with_given (raw_in old) k)) (b : Bounded (raw_in mid)) where
    pub one_given : Becomes s w old mid (one_more_given (config_in s w old))
    one_given =
        let z : k ≡ suc (raw_in old).given = omega (arith, e) in
        subst (λ n. Becomes s w old mid (with_given n (config_in s w old))) z (given s w old mid t k c b)

    pub few_outside : length (raw_in old).outside < 32 → length (raw_in mid).outside < 32
    few_outside h = subst (λ (C : RawConfig). length C.outside < 32) (sym c.is) h

    pub numbered_gone : (gone : Bool) → gone ≡ true → Becomes s w old mid (numbered (config_in s w old) (end_as s w d) gone)
    numbered_gone gone z = subst (λ g. Becomes s w old mid (numbered (config_in s w old) (end_as s w d) g)) (sym z)
        (subst (λ l. Becomes s w old mid (one_more_given (with_outside l (config_in s w old)))) (sym (append-nil (config_in s w old).outside)) one_given)

    pub numbered_out : (new : List ℕ) (gone : Bool) → gone ≡ false → TypeIn s w d.node → Changed mid new (raw.on_outside (λ l. l ++ (outside_in (record { number = m; node = d.node; channel = d.channel }) ∷ [])) (raw_in mid)) → Bounded (raw_in new)
        → Becomes s w old new (numbered (config_in s w old) (end_as s w d) gone)
    numbered_out new gone z u f k = subst (λ g. Becomes s w old new (numbered (config_in s w old) (end_as s w d) g)) (sym z)
        (subst (λ n. Becomes s w old new (one_more_given (with_outside ((config_in s w old).outside ++ (record { number = n; channel = d.channel; type = plain_in s w d.node } ∷ [])) (config_in s w old)))) e
        (then (λ (D : Config). with_outside (D.outside ++ (record { number = m; channel = d.channel; type = plain_in s w d.node } ∷ [])) D) one_given (passed_out_lem s w mid new one_given.run (record { number = m; node = d.node; channel = d.channel }) u f k)))

module _ (s w old : List ℕ) (sent : Sending) (number : ℕ) where
  abbrev pub passed_by : EndWords → Bool → Outcome
  passed_by d gone = passed_out (program_in s w) (config_in s w old) sent.place (process_as s w sent.after) (name_in s sent.term.second) (end_as s w sent.over) number (end_as s w d) gone

  -- the end d, once it came over the outside's own channel o, is that of x
  module _ {o : OutsideWords} (a : OutsideIn s w old sent.over.channel o) (d : EndWords) {node : ℕ} (v : TypeAfter s w (passed_type (plain_in s w d.node) (passing (unfolded (program_in s w).types (plain_in s w o.node)))) node) where
    abbrev pub came_over : EndWords
    came_over = record { name = d.name; side = d.side; node = node; channel = d.channel }

    new_outside_lem : (next : ℕ) → new_outside (program_in s w) next (outside_of sent.over.channel (config_in s w old).outside) (end_as s w d) ≡ record { number = next; channel = d.channel; type = plain_in s w node } ∷ []
    new_outside_lem next = ap (λ (b : Option Outside). new_outside (program_in s w) next b (end_as s w d)) a.there ∙ ap (λ A. record { number = next; channel = d.channel; type = A } ∷ []) (sym v.is)

    pub passes_numbered : (mid new : List ℕ) (gone : Bool) (m : ℕ) → sent.term.kind ≡ send_channel_kind → m ≡ (raw_in old).given
        → Becomes s w old mid (with_outside (outside_onward (program_in s w) (message s sent.term) sent.over.channel (config_in s w old).outside) (replaced sent.place (process_as s w sent.after) (config_in s w old)))
        → Becomes s w mid new (numbered (config_in s w mid) (end_as s w came_over) gone) → Carries s w old new (Carried (Passed number m gone)) (passed_by d gone)
    passes_numbered mid new gone m y z b c = record {
      is = (
        ap (λ k. Carried (Passed number k gone)) z,
        subst (λ l. Becomes s w old new (one_more_given (with_outside l (replaced sent.place (process_as s w sent.after) (config_in s w old)))))
            (λ j. outside_onward (program_in s w) (message_by s sent.term.second (y j)) sent.over.channel (config_in s w old).outside ++ cond gone [] (sym (new_outside_lem (raw_in old).given) j))
            (then (λ (D : Config). numbered D (end_as s w came_over) gone) b c),
      );
    }

  module _ {f : CodeOption EndWords} (z : sent.term.kind ≡ send_channel_kind) (a : Sees s sent.before.held sent.term.second f) where
    pub passes_none : f ≡ None → Carries s w old old NotOpen (out_by s w old sent number)
    passes_none y = subst (λ k. Carries s w old old NotOpen (out_at s w old sent number k)) (sym z) (held_none a _ y)

    module _ {d : EndWords} (y : f ≡ Some d) where
      abbrev or_lacking : Bool → Outcome
      or_lacking b = cond b (passed_by d (is_given_up (far_of s w old d))) lacking

      pub passes_lacking : 32 ≤ (raw_in old).given → Carries s w old old Lacking (out_by s w old sent number)
      passes_lacking h = subst (λ k. Carries s w old old Lacking (out_at s w old sent number k)) (sym z)
          (held_some a _ y (subst (λ b. Carries s w old old Lacking (or_lacking b)) (sym (le-ltb (raw_in old).given outside_numbers h)) (record { is = (refl, refl) })))

      pub passes_out : {new : List ℕ} {r : OutcomeWords} (x : Far) (gone : Bool) → (raw_in old).given < 32 → x ≡ far_raw s w old d → gone ≡ raw.was_given_up x → Carries s w old new r (passed_by d gone) → Carries s w old new r (out_by s w old sent number)
      passes_out {new} {r} x gone h v g c = subst (λ k. Carries s w old new r (out_at s w old sent number k)) (sym z)
          (held_some a _ y (subst (λ b. Carries s w old new r (or_lacking b)) (sym (lt-ltb (raw_in old).given outside_numbers h))
          (subst (λ b. Carries s w old new r (passed_by d b)) (g ∙ given_up_so s w old d x v) c)))

-- a process stored and a type changed leave the numbers given, and how many channels the outside has
changed_length : (k : ℕ) (f : RawOutside → RawOutside) (l : List RawOutside) → length (raw.changed_outside k f l) ≡ length l
unfolding raw.changed_outside
changed_length k f [] = refl
changed_length k f (o ∷ l) = go (eqb k o.channel) (changed_length k f l)
  where
    go : (t : Bool) → length (raw.changed_outside k f l) ≡ length l → length (cond t (f o ∷ l) (o ∷ raw.changed_outside k f l)) ≡ suc (length l)
    go true h = refl
    go false h = ap suc h

module _ {old mid new : List ℕ} (i : ℕ) (p : RawProcess) (k : ℕ) (f : RawOutside → RawOutside) (a : Changed old mid (raw.on_processes (λ l. set l i p) (raw_in old))) (b : Changed mid new (raw.on_outside (raw.changed_outside k f) (raw_in mid))) where
  pub given_kept : (raw_in new).given ≡ (raw_in old).given
  given_kept = ap (λ (C : RawConfig). C.given) b.is ∙ ap (λ (C : RawConfig). C.given) a.is

  pub outside_kept : length (raw_in new).outside ≡ length (raw_in old).outside
  outside_kept = ap (λ (C : RawConfig). length C.outside) b.is ∙ changed_length k f (raw_in mid).outside ∙ ap (λ (C : RawConfig). length C.outside) a.is
