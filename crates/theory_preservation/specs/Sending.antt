-- The rules of a send: it meets a recv, it shows outside, or it is lost. Each keeps the invariant.
use Rattle.std.specs.Prelude.{◌≡◌, refl, ◌≢◌, ℕ, ◌<◌}
use Rattle.std.proofs.Common.{sym, ◌∙◌, ap, subst, arith, length-set}
use mathlib.Core.List.Sublistᴰ
use mathlib.Core.List.{List, ◌++◌, Sublistᴰ}
use Rattle.std.proofs.Math.Option.{some, some-injective}
use Rattle.std.proofs.Math.ListN.{get_elem?}
use Rattle.notation.specs.Limits.{outside_numbers, held_limit}
use Rattle.notation.specs.Tree.{Name, Located, Ty, Proc, send_unit, send_channel, send_label, recv_unit, recv_channel, recv_label, Branches}
use Rattle.calculus.specs.Named.{lookup, without}
use Rattle.calculus.specs.Types.{used, Passing, passing, choosing}
use Rattle.calculus.specs.Program.{slot, Program}
use Rattle.calculus.specs.Outward.{Outward}
use Rattle.calculus.specs.OneType.{OneType}
use Rattle.calculus.specs.Typing.{Typed, sends_unit, recvs_unit, sends_channel, recvs_channel, sends_label, recvs_label, bringing, retyped}
use Rattle.calculus.specs.Configuration.{End, end, of_type, Doing, running, folding, Process, relinked, Outside, Config, with_outside, one_more_given, replaced, becoming, goes_on, folds_up, Holder, at_process, retyped_end, let_go, outside_of}
use Rattle.calculus.specs.Steps.{passes, chooses, after_message, onward, outside_onward, new_outside, branch_of, bound, handler_starts}
use Rattle.calculus.specs.Reduces.{Runs, Holds, Answers, GivesUp}
use Rattle.calculus.specs.WellFormed.{context_of}
use Rattle.calculus.specs.declared.answers.Seen.{Seen}
use Rattle.theory_ends.specs.Lists.{found_below, set_off}
use Rattle.theory_derivations.specs.Named.{lookup_in, in_lookup}
use Rattle.theory_ends.specs.Names.{without_sub}
use Rattle.theory_ends.specs.Contexts.{context_without, context_length, absent_held, held_plain}
use Rattle.theory_ends.specs.FarEnds.{HeldFar, FarOutside, FarNobody, far_held, stands_at}
use Rattle.theory_ends.specs.Onward.{onward_is, outside_onward_is}
use Rattle.theory_preservation.specs.Roster.{TypedDoing, outside, Goes, runs_on, goes_folding, runs_awake}
use Rattle.theory_preservation.specs.Outsides.{let_go_sub}
use Rattle.theory_preservation.specs.TwoEnds.{Facing, one_type, held_tip, ends_apart, held_facing}
use Rattle.theory_preservation.specs.Retyping.{chosen, chosen_unheard, chosen_out}
use Rattle.theory_preservation.specs.Passing.{lookup_without, passed, passed_unheard, passed_gone, passed_out_lem}
use Rattle.theory_preservation.specs.FarEnds.{nobody_has}
use Rattle.theory_preservation.specs.AfterMessage.{branch_typed, after_label, after_channel, typed_end, typed_on, typed_taking, LabelOver, label_over, ChannelOver, channel_over}
use Rattle.theory_preservation.specs.Invariant.{Inv, at_roster, fine_at, typed_at, runs_typed, continuing, inv_set, inv_less, inv_two}
use Rattle.theory_preservation.specs.GivingUp.{gives_up}
use Rattle.theory_preservation.specs.Handlers.{folded_starts}

module _ {p : Program} {C : Config} (I : Inv p C) where
  -- ── who has the two ends
  -- the holder of a far end, which answers
  module _ (e : End) {h : Holder} {c : Located} {R : Proc} (f : HeldFar C e h) (an : Answers h c R) where
    pub far_runs : Runs C h.place h.process R
    far_runs = record { stands = stands_at C f; runs = an.runs }

    pub far_end_lem : lookup h.name h.process.held ≡ some f.end
    far_end_lem = in_lookup h.process.held ((runs_on an.runs R).names _ (fine_at I h.place h.process f.stands).names) (h.name, f.end) f.held

    far_named : lookup c.name h.process.held ≡ some f.end
    far_named = ap (λ n. lookup n h.process.held) an.name ∙ far_end_lem

    module _ {i : ℕ} {q : Process} {Q : Proc} (r : Runs C i q Q) (n : Name) (le : lookup n q.held ≡ some e) where
      faces : Facing I.roster C.outside (I.id i) (I.id h.place) e f.end
      faces =
          held_facing I.good (at_roster I i q r.stands.there) (at_roster I h.place h.process f.stands) n h.name (lookup_in n q.held le) f.held
          f.channel f.side

      two_places : h.place ≢ i
      two_places z = ends_apart I.good faces (ap I.id (sym z))

      pub far_one : OneType p e.type f.end.type
      far_one = one_type I.good (I.id i) (I.id h.place) e f.end (sym f.channel) faces.near faces.far

  outside_one : {i : ℕ} {q : Process} {R : Proc} → Runs C i q R → (n : Name) {e : End} → lookup n q.held ≡ some e → (y : FarOutside C.outside e) → OneType p e.type y.entry.type
  outside_one {i} {q} r n {e} le y =
      one_type I.good (I.id i) 0 e (end used y.entry.channel y.entry.type) (sym y.channel)
      (held_tip I.good (I.id i) (relinked I.id q) (at_roster I i q r.stands.there) (n, e) (lookup_in n q.held le)) (outside refl y.entry y.listed refl)

  -- ── a unit
  module _ {i o : ℕ} {q : Process} {c : Located} {P : Proc} (r : Runs C i q (send_unit o c P)) where
    abbrev closer : Process
    closer = goes_on q P (without c.name q.held)

    abbrev closed_both : Holder → Proc → Config
    closed_both h Q = replaced h.place (goes_on h.process Q (without h.name h.process.held)) (replaced i closer C)

    closes : Typed p (context_of q.held) (send_unit o c P) → {ys : List Outside} → Sublistᴰ ys C.outside → Inv p (with_outside ys (replaced i closer C))
    closes (sends_unit _ t) =
        inv_less I i q r.stands.there (running P) (runs_on r.runs P) (without_sub c.name q.held)
        (subst (λ G. Typed p G P) (context_without c.name q.held) t)

    pub close_met : {o' : ℕ} {c' : Located} {Q : Proc} {e : End} {h : Holder} → Holds C q c e (at_process h) → Answers h c' (recv_unit o' c' Q)
        → Inv p (closed_both h Q)
    close_met {o'} {c'} {Q} {e} {h} hd an = go (typed_at J h.place h.process stays (running (recv_unit o' c' Q)) an.runs)
      where
        f : HeldFar C e h
        f = far_held C e hd.far

        J : Inv p (replaced i closer C)
        J = closes (runs_typed I r) (Sublistᴰ.refl C.outside)

        stays : get_elem? (replaced i closer C).processes h.place ≡ some h.process
        stays = set_off C.processes i h.place closer (two_places e f an r c.name hd.held) ∙ f.stands

        go : Typed p (context_of h.process.held) (recv_unit o' c' Q) → Inv p (closed_both h Q)
        go (recvs_unit _ t) =
            inv_less J h.place h.process stays (running Q) (runs_on an.runs Q) (without_sub h.name h.process.held)
            (subst (λ G. Typed p G Q)
            (ap (λ n. without n (context_of h.process.held)) an.name ∙ context_without h.name h.process.held) t) (Sublistᴰ.refl C.outside)

    pub close_shown : (e : End) → Inv p (with_outside (let_go e.channel C.outside) (replaced i closer C))
    close_shown e = closes (runs_typed I r) (let_go_sub e.channel C.outside)

    pub close_gone : Inv p (replaced i closer C)
    close_gone = closes (runs_typed I r) (Sublistᴰ.refl C.outside)

  -- ── a label
  module _ {i o : ℕ} {q : Process} {c l : Located} {P : Proc} {e : End} (r : Runs C i q (send_label o c l P)) (le : lookup c.name q.held ≡ some e) where
    abbrev chooser : Process
    chooser = goes_on q P (onward p (chooses l) c.name q.held)

    abbrev left : Ty Name
    left = after_message p (chooses l) e.type

    abbrev chosen_both : Holder → Proc → Config
    chosen_both h Q = replaced h.place (goes_on h.process Q (onward p (chooses l) h.name h.process.held)) (replaced i chooser C)

    -- what typing says of the sender, and of another end of one type
    record ChooserTyped : Type 0 where
      typed : Typed p (context_of (retyped_end c.name left q.held)) P
      over : (B : Ty Name) → OneType p e.type B → LabelOver p l e.type B

    chooses_on : Typed p (context_of q.held) (send_label o c l P) → ChooserTyped
    chooses_on (sends_label T A t ch ac la d) =
        let z = ap choosing (typed_end p q.held c.name le ac).type ∙ ch in
        record { typed = typed_on p c.name q.held (after_label p l e.type z la) d; over = λ B one. label_over p l one z la }

    ch : ChooserTyped
    ch = chooses_on (runs_typed I r)

    -- the label goes over: the receiver, whose own end is of the type of the label, does d from now on
    module _ {o' : ℕ} {c' : Located} {B : Branches} {h : Holder} (f : HeldFar C e h) (an : Answers h c' (recv_label o' c' B)) where
      label_over_to : (d : Doing) → Goes h.process.doing d → TypedDoing p (context_of (retyped_end h.name (after_message p (chooses l) f.end.type) h.process.held)) d
          → Inv p (replaced h.place (becoming d (onward p (chooses l) h.name h.process.held) h.process) (replaced i chooser C))
      label_over_to d g t =
          rw (onward_is p (chooses l) c.name q.held le, onward_is p (chooses l) h.name h.process.held (far_end_lem e f an))
          (inv_two I i h.place q h.process r.stands.there f.stands (running P) d _ _
          (chosen I.good (continuing I r P) c.name left le ch.typed (ch.over f.end.type (far_one e f an r c.name le)).one
          (record { there = at_roster I h.place h.process f.stands; goes = g }) h.name (far_end_lem e f an) f.channel f.side t))

      pub label_met : {Q : Proc} → branch_of l.name B ≡ some Q → Inv p (chosen_both h Q)
      label_met {Q} br = go (runs_typed I (far_runs e f an))
        where
          go : Typed p (context_of h.process.held) (recv_label o' c' B) → Inv p (chosen_both h Q)
          go (recvs_label T t ch' ac ds) =
              let x = branch_typed ds l.name Q br in
              let z = ap choosing (typed_end p h.process.held c'.name (far_named e f an) ac).type ∙ ch' in
              let d = subst (λ n. Typed p (retyped n x.0 (context_of h.process.held)) Q) an.name x.2 in
              label_over_to (running Q) (runs_on an.runs Q) (typed_on p h.name h.process.held (after_label p l f.end.type z x.1) d)

      pub label_unmet : Inv p (handler_starts h.place (folds_up h.process (onward p (chooses l) h.name h.process.held)) (replaced i chooser C))
      label_unmet =
          folded_starts (replaced i chooser C) h.place h.process _ (label_over_to folding (goes_folding (runs_awake an.runs)) tt)
          (let b = found_below C.processes h.place f.stands in let n = length-set C.processes i chooser in omega arith)

    pub label_shown : FarOutside C.outside e → Inv p (with_outside (outside_onward p (chooses l) e.channel C.outside) (replaced i chooser C))
    label_shown y =
        let x = ch.over y.entry.type (outside_one r c.name le y) in
        rw (onward_is p (chooses l) c.name q.held le, outside_onward_is p (chooses l) e.channel C.outside y.found)
        (inv_set I i q r.stands.there (running P) (retyped_end c.name left q.held) I.numbers
        (chosen_out I.good (continuing I r P) c.name left le ch.typed x.one y (x.outwards (I.good.fair.outwards y.entry y.listed))))

    pub label_gone : FarNobody C e → Inv p (replaced i chooser C)
    label_gone n =
        rw (onward_is p (chooses l) c.name q.held le)
        (inv_set I i q r.stands.there (running P) (retyped_end c.name left q.held) I.numbers
        (chosen_unheard I.good (continuing I r P) c.name left le ch.typed (nobody_has C I.shows e n)))

  -- ── a channel a, of which the sender has the end d
  module _ {i o : ℕ} {q : Process} {c a : Located} {P : Proc} {e : End} (r : Runs C i q (send_channel o c a P)) (le : lookup c.name q.held ≡ some e) where
    abbrev passer : Process
    passer = goes_on q P (onward p (passes a) c.name (without a.name q.held))

    abbrev rest : Ty Name
    rest = after_message p (passes a) e.type

    abbrev passed_both : Holder → Located → Proc → Config
    passed_both h x Q =
        replaced h.place
        (goes_on h.process Q (onward p (passes a) h.name h.process.held ++ bound p x.name (lookup h.name h.process.held) (lookup a.name q.held)))
        (replaced i passer C)

    -- what typing says of the sender, of the end that it passes, and of another end of one type
    record PasserTyped : Type 0 where
      apart : c.name ≢ a.name
      typed : Typed p (context_of (retyped_end c.name rest (without a.name q.held))) P
      end : End
      found : lookup a.name q.held ≡ some end
      over : (B : Ty Name) → OneType p e.type B → ChannelOver p a e.type B end.type end.side

    passes_on : Typed p (context_of q.held) (send_channel o c a P) → PasserTyped
    passes_on (sends_channel T A t ca ps ac la sm d) =
        let g = held_plain a.name q.held t.side A la in
        let z = ap passing (typed_end p q.held c.name le ac).type ∙ ps in
        record {
          apart = ca;
          typed = typed_on p c.name (without a.name q.held) (after_channel p a e.type z)
              (subst (λ G. Typed p (retyped c.name t.after G) P) (context_without a.name q.held) d);
          end = g.end;
          found = g.found;
          over = λ B one. rw g.side (channel_over p a one z (rw g.type sm));
        }

    ps : PasserTyped
    ps = passes_on (runs_typed I r)

    onward_sender : onward p (passes a) c.name (without a.name q.held) ≡ retyped_end c.name rest (without a.name q.held)
    onward_sender = onward_is p (passes a) c.name (without a.name q.held) (lookup_without c.name a.name q.held ps.apart ∙ le)

    -- the end d that a rule names is the one that typing speaks of
    is_passed : {d : End} → lookup a.name q.held ≡ some d → ps.end ≡ d
    is_passed h = some-injective _ _ (sym ps.found ∙ h)

    pub channel_met : {o' : ℕ} {c' x : Located} {Q : Proc} {h : Holder} → HeldFar C e h → Answers h c' (recv_channel o' c' x Q)
        → Inv p (passed_both h x Q)
    channel_met {o'} {c'} {x} {Q} {h} f an = go (runs_typed I (far_runs e f an))
      where
        y : ChannelOver p a e.type f.end.type ps.end.type ps.end.side
        y = ps.over f.end.type (far_one e f an r c.name le)

        -- what the receiver gets, by its own type
        got : End
        got = of_type y.passing_there.what ps.end

        go : Typed p (context_of h.process.held) (recv_channel o' c' x Q) → Inv p (passed_both h x Q)
        go (recvs_channel T t pt ac br d) =
            rw (onward_sender, onward_is p (passes a) h.name h.process.held (far_end_lem e f an), far_end_lem e f an, ps.found, y.goes)
            (inv_two I i h.place q h.process r.stands.there f.stands (running P) (running Q) _ _
            (passed I.good (continuing I r P) ps.apart rest le ps.found ps.typed y.one y.what (continuing I (far_runs e f an) Q)
            h.name x.name (far_end_lem e f an) f.channel f.side (absent_held x.name h.process.held br.new)
            (subst (λ n. n < held_limit) (context_length h.process.held) br.room)
            (typed_taking p h.name h.process.held x.name got (after_channel p a f.end.type y.goes) own)))
          where
            -- what goes over the receiver's end, as its typing has it
            same_passing : t ≡ y.passing_there
            same_passing = some-injective _ _ (sym (ap passing (typed_end p h.process.held c'.name (far_named e f an) ac).type ∙ pt) ∙ y.goes)

            own : Typed p (bringing x.name (slot ps.end.side y.passing_there.what) (retyped h.name y.passing_there.after (context_of h.process.held))) Q
            own = subst (λ G. Typed p G Q)
                (λ j. bringing x.name (slot ((ap (λ (t : Passing). t.side) same_passing ∙ y.side) j) (same_passing j).what)
                (retyped (an.name j) (same_passing j).after (context_of h.process.held))) d

    -- to the outside: the end d is on the used side, and outward
    module _ (y : FarOutside C.outside e) {d : End} (ld : lookup a.name q.held ≡ some d) (lt : C.given < outside_numbers) where
      x : ChannelOver p a e.type y.entry.type d.type d.side
      x = subst (λ (d : End). ChannelOver p a e.type y.entry.type d.type d.side) (is_passed ld) (ps.over y.entry.type (outside_one r c.name le y))

      out : Outward p y.entry.type
      out = I.good.fair.outwards y.entry y.listed

      pub passes_used : d.side ≡ used
      passes_used = sym x.side ∙ x.outside_uses out

      pub channel_shown : Inv p (one_more_given
          (with_outside (outside_onward p (passes a) e.channel C.outside ++ new_outside p C.given (outside_of e.channel C.outside) d)
          (replaced i passer C)))
      channel_shown =
          rw (onward_sender, outside_onward_is p (passes a) e.channel C.outside y.found, y.found, x.goes)
          (inv_set I i q r.stands.there (running P) _ lt
          (passed_out_lem I.good (continuing I r P) ps.apart rest le ld ps.typed x.one x.what y passes_used (x.left out) (x.passed out)))

      pub gone_shown : Inv p (one_more_given (with_outside (outside_onward p (passes a) e.channel C.outside) (replaced i passer C)))
      gone_shown =
          rw (onward_sender, outside_onward_is p (passes a) e.channel C.outside y.found)
          (inv_set I i q r.stands.there (running P) _ lt
          (passed_gone I.good (continuing I r P) ps.apart rest le ld ps.typed x.one x.what y passes_used (x.left out) (x.passed out)))

    -- to nobody
    pub channel_gone : FarNobody C e → {d : End} → lookup a.name q.held ≡ some d → {seen : Seen} {D : Config} → GivesUp C d seen D → Inv p (replaced i passer D)
    channel_gone n {d} ld g = gives_up (λ D. Inv p (replaced i passer D)) g λ ys s.
        rw onward_sender
        (inv_set I i q r.stands.there (running P) _ I.numbers
        (passed_unheard I.good (continuing I r P) ps.apart rest le ld ps.typed (nobody_has C I.shows e n) s))
