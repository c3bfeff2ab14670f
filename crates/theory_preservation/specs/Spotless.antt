-- Where no recv of a script leaves out a label, no run of it meets a label that is left out: it steps as if each recv had to have all branches.
use Rattle.std.specs.Prelude.{ℕ, ◌≡◌, refl, ◌≢◌}
use Rattle.std.proofs.Math.Path.{sym, ap, subst}
use Rattle.std.proofs.Common.{◌∙◌}
use mathlib.Core.List.{List, [], ◌∷◌, ◌++◌, cons-ne-nil}
use Rattle.std.proofs.Math.Option.{Option, some, none, none-ne-some, some-injective}
use Rattle.std.proofs.Math.Bool.{cond, not}
use Rattle.notation.specs.Tree.{Name, Located, Ty, Alternatives, alternative, Proc, send_channel, send_label, recv_channel, recv_label, Branches, branch, plain}
use Rattle.calculus.specs.Named.{lookup, without, is_some}
use Rattle.calculus.specs.Types.{provided, used, unfolded, Passing, passing, Choosing, choosing, labelled}
use Rattle.calculus.specs.Program.{slot, Context, Signature, Program, signature_context}
use Rattle.calculus.specs.Mentions.{half_mentions, mentions, spawn_takes, spawn_leaves, try_takes}
use Rattle.calculus.specs.Typing.{Typed, sends_channel, recvs_channel, sends_label, recvs_label, retyped, bringing}
use Rattle.calculus.specs.Configuration.{End, end, Doing, running, folding, waiting, Process, Config, Holder, at_process, replaced, goes_on, folds_up, linked_by}
use Rattle.calculus.specs.Steps.{Message, passes, chooses, after_message, onward, passed_type, branch_of, bound, started_doing, started_handler, folded_handler, far_moved, handler_starts}
use Rattle.calculus.specs.Warnings.{left_out, missing, branches_missing, missing_on, on_typed}
use Rattle.calculus.specs.WellFormed.{context_of}
use Rattle.calculus.specs.Reduces.{Runs, Holds, Answers, GivesUp, Sends, close_meets, channel_meets, label_meets, label_left_out, close_shows, label_shows, channel_shows, gone_shows, close_lost, label_lost, channel_lost, Reduces, communicates, spawns, tries, calls, cancels, raises, joins, joins_outside, joins_nobody, nobody_joins, unanswered, folds, leaves}
use Rattle.calculus.specs.declared.answers.Seen.{Seen}
use Rattle.theory_derivations.specs.OneType.{one_passing, one_choosing}
use Rattle.theory_ends.specs.Lists.{found_in, nil_left, nil_right}
use Rattle.theory_derivations.specs.Named.{by_test}
use Rattle.theory_ends.specs.Contexts.{context_without, context_kept, context_retyped, context_append, held_plain, acts}
use Rattle.theory_ends.specs.FarEnds.{HeldFar, far_held}
use Rattle.theory_ends.specs.Onward.{onward_is}
use Rattle.theory_preservation.specs.Each.{EachProcess, each_set, each_inserted, each_removed, each_changed_at}
use Rattle.theory_preservation.specs.Passing.{lookup_without}
use Rattle.theory_preservation.specs.AfterMessage.{branch_typed, after_label, after_channel, typed_end}
use Rattle.theory_preservation.specs.Invariant.{Inv, runs_typed}
use Rattle.theory_preservation.specs.GivingUp.{gives_up}
use Rattle.theory_preservation.specs.Making.{half_context_lem}
use Rattle.theory_preservation.specs.Joining.{far_relocated}
use Rattle.theory_preservation.specs.Calling.{called_context}
use Rattle.theory_preservation.specs.Sending.{far_runs, far_end_lem, far_one}

-- what a process does from now on leaves out no label
abbrev pub LeavesNothingOut : Program → Doing → List (Name × End) → Type 0
LeavesNothingOut p (running P) l = missing p (context_of l) P ≡ []
LeavesNothingOut p folding l = Unit {0}
LeavesNothingOut p (waiting Q) l = missing p (context_of l) Q ≡ []

abbrev pub Spotless : Program → Config → Type 0
Spotless p C = EachProcess (LeavesNothingOut p) C.processes

abbrev pub SpotlessBodies : Program → Type 0
SpotlessBodies p = (n : Name) (s : Signature) → lookup n p.processes ≡ some s → missing p (signature_context s) s.body ≡ []

no_names : (c : Located) (ls : List Name) → missing_on c ls ≡ [] → ls ≡ []
no_names c [] e = refl
no_names c (l ∷ ls) e = absurd (cons-ne-nil _ _ e)

-- ── where no label is left out, each label of the type has its branch
pub branch_for : (r : Alternatives Name) (B : Branches) → left_out r B ≡ [] → (l : Name) {A : Ty Name} → labelled l r ≡ some A → branch_of l B ≢ none
unfolding left_out labelled
branch_for Alternatives.none B e l {A} h z = none-ne-some A h
branch_for (alternative m D r) B e l {A} h z = go (branch_of m B) refl e (λ w k. branch_for r B w l k z)
  where
    go : (o : Option Proc) → branch_of m B ≡ o → cond (is_some o) (left_out r B) (m ∷ left_out r B) ≡ [] → (left_out r B ≡ [] → labelled l r ≡ some A → ⊥) → ⊥
    go none y w f = cons-ne-nil _ _ w
    go (some P) y w f = by_test (λ b. cond b (some D) (labelled l r) ≡ some A → ⊥) l m (λ q _. none-ne-some P (sym z ∙ ap (λ n. branch_of n B) q ∙ y)) (λ _ k. f w k) h

module _ (p : Program) where
  -- ── the context of what is held once a message has gone over a channel
  onward_context : (m : Message) (c : Name) (l : List (Name × End)) {e : End} {A : Ty Name} → lookup c l ≡ some e → after_message p m e.type ≡ A
      → context_of (onward p m c l) ≡ retyped c A (context_of l)
  onward_context m c l h z = ap context_of (onward_is p m c l h) ∙ sym (context_retyped c _ l) ∙ ap (λ A. retyped c A (context_of l)) z

  -- ── a process that goes on leaves nothing out still
  none_as : (P : Proc) {G H : Context} → G ≡ H → missing p G P ≡ [] → missing p H P ≡ []
  none_as P z e = subst (λ G. missing p G P ≡ []) z e

  closed_none : (P : Proc) (c : Name) (l : List (Name × End)) → missing p (without c (context_of l)) P ≡ [] → missing p (context_of (without c l)) P ≡ []
  closed_none P c l e = none_as P (context_without c l) e

  passed_none : {o : ℕ} {c a : Located} {P : Proc} (l : List (Name × End)) → Typed p (context_of l) (send_channel o c a P) → missing p (context_of l) (send_channel o c a P) ≡ []
      → missing p (context_of (onward p (passes a) c.name (without a.name l))) P ≡ []
  unfolding missing
  passed_none {c = c} {a} {P} l (sends_channel T A t ca ps ac la sm d) e =
      let x = acts p c.name l ac in
      let rest : missing p (retyped c.name t.after (without a.name (context_of l))) P ≡ [] = rw (ac, ps) at e in
      let z = onward_context (passes a) c.name (without a.name l)
      (lookup_without c.name a.name l ca ∙ x.found)
      (after_channel p a x.end.type (ap passing x.type ∙ ps)) in
      none_as P (sym (z ∙ ap (retyped c.name t.after) (sym (context_without a.name l)))) rest

  chosen_none : {o : ℕ} {c n : Located} {P : Proc} (l : List (Name × End)) → Typed p (context_of l) (send_label o c n P) → missing p (context_of l) (send_label o c n P) ≡ []
      → missing p (context_of (onward p (chooses n) c.name l)) P ≡ []
  unfolding missing
  chosen_none {c = c} {n} {P} l (sends_label T A t ch ac la d) e =
      let x = acts p c.name l ac in
      let rest : missing p (retyped c.name A (context_of l)) P ≡ [] = rw (ac, ch, la) at e in
      none_as P (sym (onward_context (chooses n) c.name l x.found (after_label p n x.end.type (ap choosing x.type ∙ ch) la))) rest

  -- a recv on c, the process's own name n for its end f
  module _ (l : List (Name × End)) (c : Located) {n : Name} (own : c.name ≡ n) {f : End} (lf : lookup n l ≡ some f) where
    named : lookup c.name l ≡ some f
    named = ap (λ n. lookup n l) own ∙ lf

    -- the end d came over it
    taken_none : {o : ℕ} {x : Located} {Q : Proc} (a : Located) (d : End) → Typed p (context_of l) (recv_channel o c x Q) → missing p (context_of l) (recv_channel o c x Q) ≡ []
        → ((t : Passing) → passing (unfolded p.types f.type) ≡ some t → d.side ≡ t.side) → missing p (context_of (onward p (passes a) n l ++ bound p x.name (some f) (some d))) Q ≡ []
    unfolding missing
    taken_none {x = x} {Q} a d (recvs_channel T t pt ac br dd) e side =
        let z = ap passing (typed_end p l c.name named ac).type ∙ pt in
        let rest : missing p (bringing x.name (slot t.side t.what) (retyped c.name t.after (context_of l))) Q ≡ [] = rw (ac, pt) at e in
        let over = onward_context (passes a) n l lf (after_channel p a f.type z) ∙ ap (λ m. retyped m t.after (context_of l)) (sym own) in
        none_as Q
        (sym (context_append (onward p (passes a) n l) (bound p x.name (some f) (some d))
        ∙ (λ j. over j ++ ((x.name, slot (side t z j) (passed_type d.type (z j))) ∷ [])))) rest

    -- the branches of labels
    labels_none : {o : ℕ} {B : Branches} {t : Choosing} → missing p (context_of l) (recv_label o c B) ≡ [] → Typed p (context_of l) (recv_label o c B) → choosing (unfolded p.types f.type) ≡ some t
        → (left_out t.labels B ≡ []) × (branches_missing p (context_of l) c.name t.labels B ≡ [])
    unfolding missing
    labels_none {B = B} {t} e (recvs_label T u ch ac ds) z =
        let same : u ≡ t = some-injective _ _ (sym (ap choosing (typed_end p l c.name named ac).type ∙ ch) ∙ z) in
        let rest : missing_on c (left_out u.labels B) ++ branches_missing p (context_of l) c.name u.labels B ≡ [] = rw (ac, ch) at e in
        subst (λ (t : Choosing). (left_out t.labels B ≡ []) × (branches_missing p (context_of l) c.name t.labels B ≡ [])) same
        (no_names c _ (nil_left _ _ rest), nil_right (missing_on c (left_out u.labels B)) _ rest)

  branches_none : (G : Context) (c : Name) (r : Alternatives Name) (B : Branches) → branches_missing p G c r B ≡ [] → (l : Name) (Q : Proc) {A : Ty Name} → branch_of l B ≡ some Q → labelled l r ≡ some A
      → missing p (retyped c A G) Q ≡ []
  unfolding missing
  branches_none G c r Branches.none e l Q b h = absurd (none-ne-some Q b)
  branches_none G c r (branch m P B) e l Q {A} b h =
      let first : on_typed (labelled m.name r) (λ A. missing p (retyped c A G) P) ≡ [] = nil_left _ (branches_missing p G c r B) e in
      by_test (λ t. cond t (some P) (branch_of l B) ≡ some Q → missing p (retyped c A G) Q ≡ []) l m.name
      (λ q y. subst (λ P. missing p (retyped c A G) P ≡ []) (some-injective _ _ y) (rw (ap (λ n. labelled n r) (sym q) ∙ h) at first))
      (λ _ y. branches_none G c r B (nil_right (on_typed (labelled m.name r) (λ A. missing p (retyped c A G) P)) _ e) l Q y h) b

  -- the branch of the label goes on
  label_none : {o : ℕ} {B : Branches} {Q : Proc} (l : List (Name × End)) (c : Located) {n : Name} → c.name ≡ n → {f : End} → lookup n l ≡ some f → (b : Located)
      → Typed p (context_of l) (recv_label o c B) → missing p (context_of l) (recv_label o c B) ≡ [] → branch_of b.name B ≡ some Q → missing p (context_of (onward p (chooses b) n l)) Q ≡ []
  label_none {o} {B} {Q} l c {n} own {f} lf b t e br = go t
    where
      go : Typed p (context_of l) (recv_label o c B) → missing p (context_of (onward p (chooses b) n l)) Q ≡ []
      go (recvs_label T u ch ac ds) =
          let x = branch_typed ds b.name Q br in
          let z = ap choosing (typed_end p l c.name (named l c own lf) ac).type ∙ ch in
          let rest = branches_none (context_of l) c.name u.labels B (labels_none l c own lf e t z).1 b.name Q br x.1 in
          none_as Q (sym (onward_context (chooses b) n l lf (after_label p b f.type z x.1) ∙ ap (λ m. retyped m x.0 (context_of l)) (sym own))) rest

  started_none : (d : Doing) (l : List (Name × End)) → LeavesNothingOut p d l → LeavesNothingOut p (started_doing d) l
  started_none (running P) l h = h
  started_none folding l h = h
  started_none (waiting Q) l h = h

  -- where a handler starts
  handled : (D : Config) → Spotless p D → (i : ℕ) (q : Process) → LeavesNothingOut p q.doing q.held → Spotless p (handler_starts i q D)
  handled D S i q h = each_set _ _ i (linked_by none q) (each_changed_at _ started_handler (λ q. started_none q.doing q.held) q.link D.processes S) h

module _ {p : Program} {C : Config} (I : Inv p C) (S : Spotless p C) where
  leaves_none : {i : ℕ} {q : Process} {P : Proc} → Runs C i q P → missing p (context_of q.held) P ≡ []
  leaves_none {i} {q} r = subst (λ d. LeavesNothingOut p d q.held) r.runs (S q (found_in C.processes i r.stands.there))

  -- ── a step keeps it
  one : (i : ℕ) (q : Process) → LeavesNothingOut p q.doing q.held → Spotless p (replaced i q C)
  one i q h = each_set _ C.processes i q S h

  two : (i : ℕ) (q : Process) (j : ℕ) (r : Process) → LeavesNothingOut p q.doing q.held → LeavesNothingOut p r.doing r.held → Spotless p (replaced j r (replaced i q C))
  two i q j r h g = each_set _ _ j r (one i q h) g

  parted : (i : ℕ) (q : Process) → LeavesNothingOut p q.doing q.held → {e : End} {seen : Seen} {D : Config} → GivesUp C e seen D → Spotless p (replaced i q D)
  parted i q h g = gives_up (λ D. Spotless p (replaced i q D)) g (λ _ _. one i q h)

  -- each label that comes has its branch
  pub takes_all : {j o o' : ℕ} {q : Process} {c l c' : Located} {P : Proc} {B : Branches} {e : End} {h : Holder} → Runs C j q (send_label o c l P) → Holds C q c e (at_process h) → Answers h c' (recv_label o' c' B)
      → branch_of l.name B ≢ none
  takes_all {o = o} {q = q} {c} {l} {c'} {P} {B} {e} {h} r k a = go (runs_typed I r)
    where
      f : HeldFar C e h
      f = far_held C e k.far

      go : Typed p (context_of q.held) (send_label o c l P) → branch_of l.name B ≢ none
      go (sends_label T A t ch ac la d) =
          let u = one_choosing p (far_one I e f a r c.name k.held) (ap choosing (typed_end p q.held c.name k.held ac).type ∙ ch) in
          let x = labels_none p h.process.held c' a.name (far_end_lem I e f a) (leaves_none (far_runs I e f a)) (runs_typed I (far_runs I e f a)) u.1 in
          branch_for u.0.labels B x.0 l.name (u.2.leads l.name la).1

  -- the end that is passed is on the side that its taker's type says
  passed_side : {i o : ℕ} {q : Process} {c a : Located} {P : Proc} {e : End} {h : Holder} {c' : Located} {R : Proc} → Runs C i q (send_channel o c a P) → lookup c.name q.held ≡ some e
      → (f : HeldFar C e h) → Answers h c' R
      → (d : End) × (lookup a.name q.held ≡ some d) × ((t : Passing) → passing (unfolded p.types f.end.type) ≡ some t → d.side ≡ t.side)
  passed_side {o = o} {q} {c} {a} {P} {e} {h} r le f an = go (runs_typed I r)
    where
      go : Typed p (context_of q.held) (send_channel o c a P) → (d : End) × (lookup a.name q.held ≡ some d) × ((t : Passing) → passing (unfolded p.types f.end.type) ≡ some t → d.side ≡ t.side)
      go (sends_channel T A t ca ps ac la sm dd) =
          let g = held_plain a.name q.held t.side A la in
          let u = one_passing p (far_one I e f an r c.name le) (ap passing (typed_end p q.held c.name le ac).type ∙ ps) in
          (g.end, g.found, λ v z. g.side ∙ u.2.side ∙ ap (λ (t : Passing). t.side) (some-injective _ _ (sym u.1 ∙ z)))

  sends_spotless : {i : ℕ} {seen : Seen} {D : Config} → Sends p C i seen D → Spotless p D
  unfolding missing
  sends_spotless {i} (close_meets {q = q} {c = c} {c' = c'} {P = P} {Q = Q} {e = e} {h = h} r k a) =
      two i _ h.place _ (closed_none p P c.name q.held (leaves_none r))
      (closed_none p Q h.name h.process.held (subst (λ n. missing p (without n (context_of h.process.held)) Q ≡ []) a.name (leaves_none (far_runs I e (far_held C e k.far) a))))
  sends_spotless {i} (channel_meets {q = q} {a = a} {c' = c'} {x = x} {Q = Q} {e = e} {h = h} r k an) =
      let f = far_held C e k.far in
      let (d, ld, side) = passed_side r k.held f an in
      two i _ h.place _ (passed_none p q.held (runs_typed I r) (leaves_none r))
      (subst (λ (y : Option End × Option End). missing p (context_of (onward p (passes a) h.name h.process.held ++ bound p x.name y.0 y.1)) Q ≡ []) (λ j. (sym (far_end_lem I e f an) j, sym ld j))
      (taken_none p h.process.held c' an.name (far_end_lem I e f an) a d (runs_typed I (far_runs I e f an)) (leaves_none (far_runs I e f an)) side))
  sends_spotless {i} (label_meets {q = q} {l = l} {c' = c'} {e = e} {h = h} r k an b) =
      let f = far_held C e k.far in
      two i _ h.place _ (chosen_none p q.held (runs_typed I r) (leaves_none r))
      (label_none p h.process.held c' an.name (far_end_lem I e f an) l (runs_typed I (far_runs I e f an)) (leaves_none (far_runs I e f an)) b)
  sends_spotless (label_left_out r k a b l) = absurd (takes_all r k a b)
  sends_spotless {i} (close_shows {q = q} {c = c} {P = P} r k) = one i _ (closed_none p P c.name q.held (leaves_none r))
  sends_spotless {i} (label_shows {q = q} r k) = one i _ (chosen_none p q.held (runs_typed I r) (leaves_none r))
  sends_spotless {i} (channel_shows {q = q} r k l n m) = one i _ (passed_none p q.held (runs_typed I r) (leaves_none r))
  sends_spotless {i} (gone_shows {q = q} r k l m) = one i _ (passed_none p q.held (runs_typed I r) (leaves_none r))
  sends_spotless {i} (close_lost {q = q} {c = c} {P = P} r k) = one i _ (closed_none p P c.name q.held (leaves_none r))
  sends_spotless {i} (label_lost {q = q} r k) = one i _ (chosen_none p q.held (runs_typed I r) (leaves_none r))
  sends_spotless {i} (channel_lost {q = q} r k l g) = parted i _ (passed_none p q.held (runs_typed I r) (leaves_none r)) g

  pub reduces_spotless : SpotlessBodies p → {i : ℕ} {seen : Seen} {D : Config} → Reduces p C i seen D → Spotless p D
  unfolding missing spawn_takes spawn_leaves try_takes
  reduces_spotless B (communicates n s) = sends_spotless s
  reduces_spotless B {i} (spawns {q = q} {x = x} {A = A} {P = P} {Q = Q} {k = k} r _ _) =
      let t = half_mentions x.name P in
      let e : missing p (bringing x.name (slot provided (plain A)) (spawn_takes x.name P (context_of q.held))) P ++ missing p (bringing x.name (slot used (plain A)) (spawn_leaves x.name P (context_of q.held))) Q ≡ [] = leaves_none r in
      each_inserted _ i _ _ (one i _ (none_as p Q (sym (half_context_lem (λ m. not (t m)) q.held x.name (end used k (plain A)))) (nil_right (missing p (bringing x.name (slot provided (plain A)) (spawn_takes x.name P (context_of q.held))) P) _ e)))
      (none_as p P (sym (half_context_lem t q.held x.name (end provided k (plain A)))) (nil_left _ (missing p (bringing x.name (slot used (plain A)) (spawn_leaves x.name P (context_of q.held))) Q) e))
  reduces_spotless B {i} (tries {q = q} {P = P} {Q = Q} r _) =
      let e : missing p (try_takes P (context_of q.held)) P ++ missing p (try_takes Q (context_of q.held)) Q ≡ [] = leaves_none r in
      each_set _ _ i _ (each_inserted _ i _ C.processes S (none_as p Q (context_kept (mentions Q) q.held) (nil_right (missing p (try_takes P (context_of q.held)) P) _ e)))
      (none_as p P (context_kept (mentions P) q.held) (nil_left _ (missing p (try_takes Q (context_of q.held)) Q) e))
  reduces_spotless B {i} (calls {q = q} {f = f} {s = s} r e) = one i _ (none_as p s.body (sym (called_context p q.held (runs_typed I r) e)) (B f.name s e))
  reduces_spotless B {i} (cancels {q = q} {c = c} {P = P} r _ g) = parted i _ (closed_none p P c.name q.held (leaves_none r)) g
  reduces_spotless B {i} (raises {q = q} {P = P} r _) = handled p C S i (goes_on q P q.held) (leaves_none r)
  reduces_spotless B {i} (joins {e = e} {d = d} {h = h} r x y _) =
      two i _ h.place _ tt (moved h.process.doing (S h.process (found_in C.processes h.place f.stands)))
    where
      f : HeldFar C e h
      f = far_held C e x.far

      -- where an end is moved to another channel, the context is the same
      moved : (b : Doing) → LeavesNothingOut p b h.process.held → LeavesNothingOut p b (far_moved e d h.process).held
      moved (running P) z = none_as p P (sym (far_relocated I e d.channel f).context) z
      moved folding z = tt
      moved (waiting Q) z = none_as p Q (sym (far_relocated I e d.channel f).context) z
  reduces_spotless B {i} (joins_outside r x y _) = one i _ tt
  reduces_spotless B {i} (joins_nobody r x y _) = one i _ tt
  reduces_spotless B {i} (nobody_joins r x y g) = parted i _ tt g
  reduces_spotless B {i} (unanswered {q = q} {c = c} r _ _) = handled p C S i (folds_up q (without c.name q.held)) tt
  reduces_spotless B {i} (folds s d h g) = parted i _ tt g
  reduces_spotless B {i} (leaves {q = q} s e) = each_removed _ i _ (each_changed_at _ folded_handler (λ _ _. tt) q.link C.processes S)
