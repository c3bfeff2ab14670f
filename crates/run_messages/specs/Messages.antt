-- What goes over a channel, by the numbers of a term's node.
use Rattle.std.specs.Prelude.{ℕ, zero, suc, ◌+◌, ◌≤◌, ◌<◌, ◌≡◌, refl, List, [], ◌∷◌, Bool, true, false, cond, length}
use Rattle.std.specs.Prelude.{Option as CodeOption, Some, None}
use Rattle.std.specs.Bool.{then_some}
use Rattle.std.proofs.Common.{sym, ◌∙◌, arith}
use Rattle.std.proofs.Math.Path.{ap, subst}
use Rattle.std.proofs.Math.Option.{Option, some, none, map, get_or, none-ne-some}
use Rattle.notation.specs.Bytes.{same}
use Rattle.notation.specs.Limits.{text_limit, process_term_limit}
use Rattle.notation.specs.Token.{name_at}
use Rattle.notation.specs.Reader.{name_in, label_in}
use Rattle.notation.specs.Tree.{Name, Located, Ty, Proc, send_label}
use Rattle.notation.specs.Tables.{term_node}
use Rattle.notation.specs.declared.reading.TermNode.{TermNode}
use Rattle.calculus.specs.Named.{lookup, changed}
use Rattle.calculus.specs.Types.{unfolded, passing, choosing}
use Rattle.calculus.specs.Configuration.{End, Doing}
use Rattle.calculus.specs.Steps.{Message, closing, passes, chooses, on_close, on_channel, on_label, Turn, sends, receives, alone, turn, turn_of, after_passing, after_choosing, after_message, passed_type, onward, after_send}
use Rattle.calculus.specs.Configuration.{retyped_end}
use Rattle.theory_ends.specs.Onward.{onward_is}
use Rattle.read_tables.specs.Access.{TermOf}
use Rattle.read_tables.specs.Decode.{tally_in, term_at, term_node_of, process_in}
use Rattle.read_tables.specs.Program.{plain_in, program_in}
use Rattle.read_tables.specs.Roots.{TypeIn, AlternativesIn, ProcessIn, BranchesIn, branches_in, Handlers, each_kind, process_cases, process_tree, process_root}
use Rattle.read_tables.specs.Stands.{ProcessAt}
use Rattle.read_tables.specs.Search.{place_of}
use Rattle.read_tables.specs.Whole.{Tables}
use Rattle.check_types.specs.Acting.{StandsFor, PassingOf, passing_of, passed_in, ChoosingOf, choosing_of, chosen_in}
use Rattle.check_types.specs.Labels.{LeadsTo}
use Rattle.check_types.specs.declared.messages.Passing.{Passing}
use Rattle.check_types.specs.Acting.{passing_words}
use Rattle.check_types.specs.declared.messages.Choosing.{Choosing}
use Rattle.check_types.specs.Acting.{choosing_words}
use Rattle.run_words.specs.declared.records.End.{End as EndWords}
use Rattle.run_words.specs.declared.records.Held.{Held}
use Rattle.check_contexts.specs.Held.{channels_of, HeldIn, end_found, Sees, Drops, Retypes}
use Rattle.run_words.specs.Raw.{pointer_limit, running_kind, folding_kind}
use Rattle.run_messages.specs.Kinds.{idle_kind, send_channel_kind, send_label_kind, send_unit_kind}
use Rattle.run_alone.specs.Run.{doing_as}
use Rattle.run_alone.specs.Changes.{channels_many}

-- the message of a send: kinds 1, 2 and 3
abbrev pub message_by : List ℕ → ℕ → ℕ → Message
message_by s second zero = closing
message_by s second (suc zero) = closing
message_by s second (suc (suc zero)) = passes (name_in s second)
message_by s second (suc (suc (suc k))) = chooses (label_in s second)

abbrev pub message : List ℕ → TermNode → Message
message s n = message_by s n.second n.kind

-- the node of a send
pub record SendNode (n : TermNode) : Type 0 where
  pub low : send_unit_kind ≤ n.kind
  pub high : n.kind ≤ send_label_kind
  pub label : n.kind ≡ send_label_kind → n.second < pointer_limit

-- ── the type afterwards
pub record TypeAfter (s w : List ℕ) (A : Ty Name) (r : ℕ) : Type 0 where
  pub is : plain_in s w r ≡ A
  pub type : TypeIn s w r

module _ (s w : List ℕ) (t : Tables s w) (i j : ℕ) (a : TypeIn s w i) (f : StandsFor s w i j) where
  abbrev stood : Ty Name
  stood = unfolded (program_in s w).types (plain_in s w i)

  module _ (q : CodeOption Passing) (o : PassingOf w j q) where
    passing_is : passing stood ≡ passing_of s w q
    passing_is = ap passing (sym f.is) ∙ (o.says s t f.type).is

    pub passing_after : (u v x y : ℕ) → q ≡ passing_words u v x y → TypeAfter s w (after_passing (plain_in s w i) (passing stood)) y
    passing_after u v x y e = record {
      is = sym (ap (after_passing (plain_in s w i)) (passing_is ∙ ap (passing_of s w) e));
      type = (subst (passed_in s w) e (o.says s t f.type).parts).1;
    }

    pub passing_nothing : q ≡ None → TypeAfter s w (after_passing (plain_in s w i) (passing stood)) i
    passing_nothing e = record { is = sym (ap (after_passing (plain_in s w i)) (passing_is ∙ ap (passing_of s w) e)); type = a }

    -- what comes over it
    module _ (k : ℕ) where
      pub passing_what : (u v x y : ℕ) → q ≡ passing_words u v x y → TypeAfter s w (passed_type (plain_in s w k) (passing stood)) x
      passing_what u v x y e = record {
        is = sym (ap (passed_type (plain_in s w k)) (passing_is ∙ ap (passing_of s w) e));
        type = (subst (passed_in s w) e (o.says s t f.type).parts).0;
      }

      pub passing_as_it_was : TypeIn s w k → q ≡ None → TypeAfter s w (passed_type (plain_in s w k) (passing stood)) k
      passing_as_it_was b e = record { is = sym (ap (passed_type (plain_in s w k)) (passing_is ∙ ap (passing_of s w) e)); type = b }

  module _ (at : ℕ) (q : CodeOption Choosing) (o : ChoosingOf w j q) where
    abbrev chosen_by : Ty Name
    chosen_by = after_choosing (plain_in s w i) (name_at s (at + 1)) (choosing stood)

    choosing_is : choosing stood ≡ choosing_of s w q
    choosing_is = ap choosing (sym f.is) ∙ (o.says s t f.type).is

    pub choosing_nothing : q ≡ None → TypeAfter s w chosen_by i
    choosing_nothing e = record { is = sym (ap (after_choosing (plain_in s w i) (name_at s (at + 1))) (choosing_is ∙ ap (choosing_of s w) e)); type = a }

    module _ (u e n : ℕ) (m : q ≡ choosing_words u e n) where
      pub choosing_labels : AlternativesIn s w e n
      choosing_labels = (subst (chosen_in s w) m (o.says s t f.type).parts).1

      chosen_is : (r : CodeOption ℕ) → LeadsTo s w at e n r → chosen_by ≡ get_or (map (plain_in s w) (place_of r)) (plain_in s w i)
      chosen_is r l = ap (after_choosing (plain_in s w i) (name_at s (at + 1))) (choosing_is ∙ ap (choosing_of s w) m) ∙ ap (λ (d : Option (Ty Name)). get_or d (plain_in s w i)) l.is

      pub choosing_after : (r : CodeOption ℕ) (y : ℕ) → LeadsTo s w at e n r → r ≡ Some y → TypeAfter s w chosen_by y
      choosing_after r y l z = record { is = sym (chosen_is r l ∙ ap (λ (x : CodeOption ℕ). get_or (map (plain_in s w) (place_of x)) (plain_in s w i)) z); type = l.type y z }

      pub choosing_none : (r : CodeOption ℕ) → LeadsTo s w at e n r → r ≡ None → TypeAfter s w chosen_by i
      choosing_none r l z = record { is = sym (chosen_is r l ∙ ap (λ (x : CodeOption ℕ). get_or (map (plain_in s w) (place_of x)) (plain_in s w i)) z); type = a }

-- the message of a node's kind
module _ (s w : List ℕ) (n : TermNode) (A : Ty Name) where
  abbrev sent_type : Ty Name
  sent_type = after_message (program_in s w) (message s n) A

  module _ {r : ℕ} where
    pub closed_type : n.kind ≡ send_unit_kind → TypeAfter s w A r → TypeAfter s w sent_type r
    unfolding after_message
    closed_type e h = subst (λ k. TypeAfter s w (after_message (program_in s w) (message s (term_node k n.at n.first n.second n.third)) A) r) (sym e) h

    pub passed_type_lem : n.kind ≡ send_channel_kind → TypeAfter s w (after_passing A (passing (unfolded (program_in s w).types A))) r → TypeAfter s w sent_type r
    unfolding after_message
    passed_type_lem e h = subst (λ k. TypeAfter s w (after_message (program_in s w) (message s (term_node k n.at n.first n.second n.third)) A) r) (sym e) h

    pub chosen_type : n.kind ≡ send_label_kind → TypeAfter s w (after_choosing A (name_at s (n.second + 1)) (choosing (unfolded (program_in s w).types A))) r → TypeAfter s w sent_type r
    unfolding after_message
    chosen_type e h = subst (λ k. TypeAfter s w (after_message (program_in s w) (message s (term_node k n.at n.first n.second n.third)) A) r) (sym e) h

-- ── what is held once the message of the send n has gone over the channel under the name at an offset
pub record MovesOn (s w : List ℕ) (h : Held) (n : TermNode) (at : ℕ) (r : Held) : Type 0 where
  pub is : channels_of s w r ≡ onward (program_in s w) (message s n) (name_at s at) (channels_of s w h)
  pub many : r.count ≡ h.count
  pub fits : HeldIn s w r

-- as many are held as before
changed_many : (n : Name) (f : End → End) (l : List (Name × End)) → length (changed n f l) ≡ length l
unfolding changed
changed_many n f [] = refl
changed_many n f (e ∷ l) = go (same n e.0) (changed_many n f l)
  where
    go : (b : Bool) → length (changed n f l) ≡ length l → length (cond b ((e.0, f e.1) ∷ l) (e ∷ changed n f l)) ≡ suc (length l)
    go true h = refl
    go false h = ap suc h

-- a name that nothing has changes nothing
changed_unheld : (n : Name) (f : End → End) (l : List (Name × End)) → lookup n l ≡ none → changed n f l ≡ l
unfolding lookup changed
changed_unheld n f [] e = refl
changed_unheld n f (x ∷ l) e = go (same n x.0) e (changed_unheld n f l)
  where
    go : (b : Bool) → cond b (some x.1) (lookup n l) ≡ none → (lookup n l ≡ none → changed n f l ≡ l) → cond b ((x.0, f x.1) ∷ l) (x ∷ changed n f l) ≡ x ∷ l
    go true z r = absurd (none-ne-some x.1 (sym z))
    go false z r = ap (λ m. x ∷ m) (r z)

module _ (s w : List ℕ) (h : Held) (n : TermNode) (at : ℕ) {f : CodeOption EndWords} (a : Sees s h at f) (t : HeldIn s w h) where
  pub moves_found : {e : EndWords} {node : ℕ} {r : Held} → f ≡ Some e → TypeAfter s w (after_message (program_in s w) (message s n) (plain_in s w e.node)) node → Retypes s h at node r → MovesOn s w h n at r
  moves_found {r = r} z u c = record {
    is = c.is w ∙ ap (λ A. retyped_end (name_at s at) A (channels_of s w h)) u.is ∙ sym (onward_is (program_in s w) (message s n) (name_at s at) (channels_of s w h) (a.is w ∙ ap (end_found s w) z));
    many = sym (channels_many s w r) ∙ ap length (c.is w) ∙ changed_many (name_at s at) _ (channels_of s w h) ∙ channels_many s w h;
    fits = c.fits w u.type t;
  }

  pub moves_nothing : f ≡ None → MovesOn s w h n at h
  moves_nothing z = record { is = sym (changed_unheld (name_at s at) _ (channels_of s w h) (a.is w ∙ ap (end_found s w) z)); many = refl; fits = t }

-- ── the sender's channels afterwards
pub record SentHeld (s w : List ℕ) (h : Held) (n : TermNode) (r : Held) : Type 0 where
  pub is : channels_of s w r ≡ after_send (program_in s w) (name_at s n.first) (message s n) (channels_of s w h)
  pub fits : HeldIn s w r

module _ (s w : List ℕ) (h : Held) (n : TermNode) where
  abbrev SentAt : ℕ → Held → Type 0
  SentAt k r = channels_of s w r ≡ after_send (program_in s w) (name_at s n.first) (message_by s n.second k) (channels_of s w h)

  pub sent_close : (r : Held) → n.kind ≡ send_unit_kind → HeldIn s w h → Drops s h n.first r → SentHeld s w h n r
  unfolding after_send
  sent_close r e t d = record { is = subst (λ k. SentAt k r) (sym e) (d.is w); fits = d.fits w t }

  pub sent_channel : (m r : Held) → n.kind ≡ send_channel_kind → Drops s h n.second m → MovesOn s w m n n.first r → SentHeld s w h n r
  unfolding after_send
  sent_channel m r e d c = record {
    is = subst (λ k. SentAt k r) (sym e) (c.is ∙ λ j. onward (program_in s w) (message_by s n.second (e j)) (name_at s n.first) (d.is w j));
    fits = c.fits;
  }

  pub sent_label : (r : Held) → n.kind ≡ send_label_kind → MovesOn s w h n n.first r → SentHeld s w h n r
  unfolding after_send
  sent_label r e c = record {
    is = subst (λ k. SentAt k r) (sym e) (c.is ∙ ap (λ k. onward (program_in s w) (message_by s n.second k) (name_at s n.first) (channels_of s w h)) e);
    fits = c.fits;
  }

-- ── a term by its kind
abbrev pub turn_by : List ℕ → List ℕ → TermNode → ℕ → Turn
turn_by s w n zero = alone
turn_by s w n (suc zero) = sends (name_in s n.first) closing (process_in s w n.third)
turn_by s w n (suc (suc zero)) = sends (name_in s n.first) (passes (name_in s n.second)) (process_in s w n.third)
turn_by s w n (suc (suc (suc zero))) = sends (name_in s n.first) (chooses (label_in s n.second)) (process_in s w n.third)
turn_by s w n (suc (suc (suc (suc zero)))) = alone
turn_by s w n (suc (suc (suc (suc (suc zero))))) = alone
turn_by s w n (suc (suc (suc (suc (suc (suc zero)))))) = receives (name_in s n.first) (on_close (process_in s w n.third))
turn_by s w n (suc (suc (suc (suc (suc (suc (suc zero))))))) = receives (name_in s n.first) (on_channel (name_in s n.second) (process_in s w n.third))
turn_by s w n (suc (suc (suc (suc (suc (suc (suc (suc zero)))))))) = receives (name_in s n.first) (on_label (branches_in s w n.second n.third))
turn_by s w n (suc (suc (suc (suc (suc (suc (suc (suc (suc k))))))))) = alone

-- what stands at its numbers
abbrev pub parts_by : List ℕ → List ℕ → TermNode → ℕ → Type 0
parts_by s w n zero = Unit {0}
parts_by s w n (suc zero) = ProcessIn s w n.third
parts_by s w n (suc (suc zero)) = ProcessIn s w n.third
parts_by s w n (suc (suc (suc zero))) = (n.second < pointer_limit) × ProcessIn s w n.third
parts_by s w n (suc (suc (suc (suc zero)))) = Unit {0}
parts_by s w n (suc (suc (suc (suc (suc zero))))) = Unit {0}
parts_by s w n (suc (suc (suc (suc (suc (suc zero)))))) = ProcessIn s w n.third
parts_by s w n (suc (suc (suc (suc (suc (suc (suc zero))))))) = (n.second < text_limit) × ProcessIn s w n.third
parts_by s w n (suc (suc (suc (suc (suc (suc (suc (suc zero)))))))) = BranchesIn s w n.second n.third
parts_by s w n (suc (suc (suc (suc (suc (suc (suc (suc (suc k))))))))) = Unit {0}

-- the turn of a term on the channel of a name; of another it has none
abbrev pub heard : Name → Turn → Turn
heard x (sends c m P) = cond (same c.name x) (sends c m P) alone
heard x (receives c v) = cond (same c.name x) (receives c v) alone
heard x alone = alone

pub record Heard (s w : List ℕ) (x : ℕ) (d : Doing) (n : TermNode) : Type 0 where
  pub is : heard (name_at s x) (turn_of d) ≡ turn_by s w n n.kind
  pub parts : parts_by s w n n.kind

-- where the label of a send stands fits into its bits
pub label_small : (s w : List ℕ) (p : ℕ) → Tables s w → ProcessIn s w p → (o : ℕ) (c : Located) (k : ℕ) (P : Proc) → process_in s w p ≡ send_label o c (label_in s k) P → k < pointer_limit
unfolding ProcessAt term_at term_node_of
label_small s w p t a o c k P e =
    let there : ProcessAt w (tally_in w) p (send_label o c (label_in s k) P) = subst (ProcessAt w (tally_in w) p) (sym (process_tree s w t.within p a) ∙ e) a.is in
    let z : (term_at w p).second ≡ k = ap (λ (n : TermNode). n.second) there.1.1 in
    omega (arith, z)

module _ (s w : List ℕ) (A : Proc) (small : (o : ℕ) (c : Located) (k : ℕ) (P : Proc) → A ≡ send_label o c (label_in s k) P → k < pointer_limit) (at first second third : ℕ) where
  abbrev node : ℕ → TermNode
  node k = term_node k at first second third

  abbrev Turns : ℕ → Type 0
  Turns k = (turn A ≡ turn_by s w (node k) k) × parts_by s w (node k) k

  turns : Handlers (process_cases s w (node 0) A) Turns
  turns = (
    λ e. absurd e,
    (
      λ ((m, f), e). (ap turn e, f),
      (
        λ ((m, f), e). (ap turn e, f),
        (
          λ ((m, f), e). (ap turn e, (small _ _ _ _ e, f)),
          (
            λ (f, e). (ap turn e, tt),
            (
              λ (t, f, (g, e)). (ap turn e, tt),
              (
                λ ((m, f), e). (ap turn e, f),
                (
                  λ (l, ((m, f), e)). (ap turn e, (l, f)),
                  (
                    λ (l, f, e). (ap turn e, f),
                    (
                      λ e. (ap turn e, tt),
                      (λ (c, e). (ap turn e, tt), (λ (f, e). (ap turn e, tt), (λ (f, (g, e)). (ap turn e, tt), tt))),
                    ),
                  ),
                ),
              ),
            ),
          ),
        ),
      ),
    ),
  )

-- the node of the term that a process runs, if it runs one
abbrev pub RunsTerm : List ℕ → ℕ → ℕ → CodeOption TermNode → Type 0
RunsTerm w kind pointer (Some n) = (kind ≡ running_kind) × (pointer < process_term_limit) × TermOf w pointer n
RunsTerm w kind pointer None = kind ≡ running_kind → process_term_limit ≤ pointer

-- the node of the turn of a process on the channel of a name, if it has one
abbrev pub TurnOn : List ℕ → List ℕ → ℕ → Doing → CodeOption TermNode → Type 0
TurnOn s w x d (Some n) = Heard s w x d n
TurnOn s w x d None = heard (name_at s x) (turn_of d) ≡ alone

-- a node that is no turn
abbrev pub idle : TermNode
idle = term_node idle_kind 0 0 0 0

module _ (s w : List ℕ) (x : ℕ) where
  -- no turn, as the turn of such a node
  pub idle_heard : {d : Doing} → TurnOn s w x d None → Heard s w x d idle
  idle_heard e = record { is = e; parts = tt }

  module _ (kind pointer : ℕ) (o : (kind ≡ folding_kind → ⊥) → ProcessIn s w pointer) (t : Tables s w) where
    pub turn_idle : RunsTerm w kind pointer None → TurnOn s w x (doing_as s w kind pointer) None
    turn_idle z = ap (heard (name_at s x)) (go kind o z)
      where
        go : (k : ℕ) → ((k ≡ folding_kind → ⊥) → ProcessIn s w pointer) → (k ≡ running_kind → process_term_limit ≤ pointer) → turn_of (doing_as s w k pointer) ≡ alone
        go zero o z = ap turn ((process_root s w t.within pointer (o λ e. omega arith)).none (z refl))
        go (suc zero) o z = refl
        go (suc (suc k)) o z = refl

    module _ (n : TermNode) (f : RunsTerm w kind pointer (Some n)) where
      runs_term : ProcessIn s w pointer
      runs_term = o (λ e. let q : ◌≡◌ {A = ℕ} 0 1 = sym f.0 ∙ e in omega arith)

      turn_so : (turn (process_in s w pointer) ≡ turn_by s w n n.kind) × parts_by s w n n.kind
      turn_so = each_kind (process_cases s w n (process_in s w pointer)) (Turns s w (process_in s w pointer) (label_small s w pointer t runs_term) n.at n.first n.second n.third)
          (turns s w (process_in s w pointer) (label_small s w pointer t runs_term) n.at n.first n.second n.third) n.kind ((f.2.says s t runs_term).node f.1).1

      none_either : (c : Bool) → alone ≡ cond c alone alone
      none_either true = refl
      none_either false = refl

      named : (k : ℕ) (c : Bool) → same (name_at s n.first) (name_at s x) ≡ c → heard (name_at s x) (turn_by s w n k) ≡ cond c (turn_by s w n k) alone
      named zero c e = none_either c
      named (suc zero) c e = ap (λ d. cond d (turn_by s w n 1) alone) e
      named (suc (suc zero)) c e = ap (λ d. cond d (turn_by s w n 2) alone) e
      named (suc (suc (suc zero))) c e = ap (λ d. cond d (turn_by s w n 3) alone) e
      named (suc (suc (suc (suc zero)))) c e = none_either c
      named (suc (suc (suc (suc (suc zero))))) c e = none_either c
      named (suc (suc (suc (suc (suc (suc zero)))))) c e = ap (λ d. cond d (turn_by s w n 6) alone) e
      named (suc (suc (suc (suc (suc (suc (suc zero))))))) c e = ap (λ d. cond d (turn_by s w n 7) alone) e
      named (suc (suc (suc (suc (suc (suc (suc (suc zero)))))))) c e = ap (λ d. cond d (turn_by s w n 8) alone) e
      named (suc (suc (suc (suc (suc (suc (suc (suc (suc k))))))))) c e = none_either c

      heard_so : (c : Bool) → same (name_at s n.first) (name_at s x) ≡ c → heard (name_at s x) (turn_of (doing_as s w kind pointer)) ≡ cond c (turn_by s w n n.kind) alone
      heard_so c e = ap (λ k. heard (name_at s x) (turn_of (doing_as s w k pointer))) f.0 ∙ ap (heard (name_at s x)) turn_so.0 ∙ named n.kind c e

      -- the term is its turn, if it acts on that channel
      pub turn_named : (c : Bool) → c ≡ same (name_at s n.first) (name_at s x) → TurnOn s w x (doing_as s w kind pointer) (then_some c n)
      turn_named true e = record { is = heard_so true (sym e); parts = turn_so.1 }
      turn_named false e = heard_so false (sym e)
