-- What the definition says on each way through the code that reads terms with processes in brackets.
use mathlib.Core.Path.{◌≡◌, refl, ap, sym, subst, ◌∙◌}
use mathlib.Core.List.{List}
use Prim.Native.Nat.{ℕ, suc, ◌+◌, ◌*◌, ◌<◌, ◌≤◌}
use native.Mathlib.Omega.{arith}
use Rattle.std.specs.Prelude.{Ok, Err}
use Rattle.notation.specs.Fine.{FineProcess}
use Rattle.notation.specs.Limits.{text_limit}
use Rattle.notation.specs.Token.{kind_at, token_at, k_name, k_then, k_round_open, k_round_close, k_recv, k_try, k_catch, k_from, k_colon}
use Rattle.notation.specs.Tree.{Located, Ty, Proc, spawn, recv_label, try}
use Rattle.notation.specs.Refusals.{OrRefusal}
use Rattle.notation.specs.Reader.{Result, Taken, got, refused, on_token, part, lastly, expect, misfit, opening, process_term, closed, name_in}
use Rattle.notation.specs.Types.{read_type}
use Rattle.notation.specs.Processes.{term_head, payload, unit_taken, bracketed_by, recv_by, process_by, read_process, read_rest, read_branches}
use Rattle.notation.specs.Tables.{more_terms, term_node, put_term, pointer_to, after_type, write_type, after_process, after_branches, write_process}
use Rattle.notation.specs.declared.refusal.Refusal.{Refusal}
use Rattle.notation.specs.declared.reading.Cursor.{Cursor}
use Rattle.notation.specs.declared.reading.Tally.{Tally}
use Rattle.notation.specs.declared.reading.TermNode.{TermNode}
use Rattle.notation.specs.declared.token.TermHead.{TermHead}
use Rattle.notation.specs.declared.token.TermHead.TheVariants.{Recv, Try, Spawn, Empty}
use Rattle.notation.specs.declared.token.Payload.{Payload}
use Rattle.notation.specs.declared.token.Payload.TheVariants.{Unit as UnitPayload, Channel, Label, Other}
use Rattle.read_types.specs.Filling.{Out, TypeRead, Further, Stepped, misfit_refusal, Room, Form, Meets, unread}
use Rattle.read_types.proofs.TypePaths.{then_take}
use Rattle.read_types.proofs.Filled.{same, ◌upon◌, took, made_got, gone_on, stopped, meets_no, meets_got, more_made}
use Rattle.read_text.specs.declared.turns.Turn.{Turn}
use Rattle.read_text.specs.declared.turns.Turn.TheVariants.{Done}
use Rattle.read_text.specs.Turns.{peek, pointing, process_form, term_form, node_form, ProcessRead, TurnRead, RestTurned}
use Rattle.read_text.specs.Processes.{payload_taken, payload_then, name_colon, payload_node, recvd_of, recvd_node, NoLabel, term_by, parts_form, parts_by, TermRead, TermTurned, HandlerRead, OneRead, LabelsRead, BracketedRead, PartsTurned, BranchesRead}
use Rattle.read_text.proofs.Turning.{turn_no, term_kept, made_as, meets_as, turn_done, turn_under}
use Rattle.read_text.proofs.Pointers.{pointer_at, pointer_in}
use Rattle.read_text.proofs.Order.{Inside, process_grown, type_put, process_put, branches_put}

-- ── a process and the bracket that closes it
-- r is the answer p, and then the bracket that closes: p's refusal, the bracket's, or p with as many open as at c
pub data Closes (s : List ℕ) (c : Cursor) (p r : Out) : Type 0 where
  not_read : {y : Refusal} → p ≡ Err y → r ≡ Err y → Closes s c p r
  not_closed : {e : Cursor} {l : Tally} {x : Taken} {y : Refusal} → p ≡ Ok (e, l) → Stepped s e 1 0 0 (expect s k_round_close e) x → x ≡ Err y → r ≡ Err y
      → Closes s c p r
  read : {e b : Cursor} {l : Tally} {x : Taken} {j : ℕ} → p ≡ Ok (e, l) → Stepped s e 1 0 0 (expect s k_round_close e) x → x ≡ Ok (j, b) → r ≡ Ok (closed c b, l)
      → Closes s c p r

module _ {F G : Form Proc} {s w : List ℕ} {c₀ c d : Cursor} {k k' : Tally} {b bs : ℕ} {f sub : ℕ → Result Proc}
    (is : (m : ℕ) → b < m → (f m ≡ part (sub m) (λ P g. on_token (expect s k_round_close g) λ _ h. got P (closed c h))) × (bs < m)) {p : Out} {v : List ℕ}
    (t : Meets F s w d k' bs sub p v)
    (alike : (P : Proc) → (F.after P k' ≡ G.after P k) × (F.write P k' w ≡ G.write P k w) × (F.Fine P → G.Fine P)) where
  closed_meets : ((g h : Cursor) (i : ℕ) (l : Tally) → F.Ahead s d k' g l → Further s g 1 0 0 i h → G.Ahead s c₀ k (closed c h) l) → {r : Out}
      → Closes s c p r → Meets G s w c₀ k b f r v
  closed_meets ahead (not_read g h) = meets_no s w c₀ k h t.kept (λ m lo. (is m lo).0 ∙ rw (stopped (sub m) (t.is m (is m lo).1) g))
  closed_meets ahead (not_closed g y z h) =
      meets_no s w c₀ k h t.kept (λ m lo. gone_on (sub m) (t.is m (is m lo).1) g λ P a _ _ _. (is m lo).0 ∙ rw (a, took y z))
  closed_meets ahead (read {e = e} {b = g₂} {l = l} {j = j} g y z h) =
      rw h
      (meets_got s w c₀ k (ahead e g₂ j l (t.on e l g) (y.on j g₂ z)) t.kept
      (λ m lo. gone_on (sub m) (t.is m (is m lo).1) g λ P a al av fi.
      made_got P ((is m lo).0 ∙ rw (a, took y z)) (ap (λ x. Ok (closed c g₂, x)) (al ∙ (alike P).0)) (av ∙ (alike P).1) ((alike P).2 fi)))

module _ (s w : List ℕ) (c : Cursor) (k : Tally) (room : Room s w c k) {q : Taken} (u : Stepped s c 1 0 0 (opening s k_round_open c) q) where
  pub bracketed_no : {r : Out} {y : Refusal} → q ≡ Err y → r ≡ Err y → BracketedRead s w c k r w
  unfolding bracketed_by
  bracketed_no g h = meets_no s w c k h same (λ m _. rw (took u g))

  pub bracketed_closed : {i : ℕ} {d : Cursor} → q ≡ Ok (i, d) → {p : Out} {v : List ℕ} → ProcessRead s w d k p v → {r : Out} → Closes s c p r
      → BracketedRead s w c k r v
  unfolding bracketed_by
  bracketed_closed {i} {d} e t =
      let o = u.on i d e in
      closed_meets (λ m lo. (rw (took u e), omega arith)) t (λ P. (refl, refl, λ f. f)) (λ g h j l x y. omega arith)

-- ── recv
module _ (s w : List ℕ) (c : Cursor) (k : Tally) (room : Room s w c k) {q : Taken} (u : Stepped s c 1 0 1 (process_term s k_recv c) q) where
  pub recv_no : {r : Out} {y : Refusal} → q ≡ Err y → r ≡ Err y → TermRead Recv s w c k r w
  unfolding process_by
  recv_no g h = meets_no s w c k h same (λ m _. rw (took u g))

  module _ {at : ℕ} {d : Cursor} (e : q ≡ Ok (at, d)) {x : Taken} (y : Stepped s d 1 0 0 (expect s k_name d) x) where
    pub recv_name_no : {r : Out} {y : Refusal} → x ≡ Err y → r ≡ Err y → TermRead Recv s w c k r w
    unfolding process_by
    recv_name_no g h = meets_no s w c k h same (λ m _. rw (took u e, took y g))

    module _ {i : ℕ} {f : Cursor} (g : x ≡ Ok (i, f)) {z : Taken} (a : Stepped s f 1 0 0 (opening s k_round_open f) z) where
      pub recv_open_no : {r : Out} {y : Refusal} → z ≡ Err y → r ≡ Err y → TermRead Recv s w c k r w
      unfolding process_by
      recv_open_no h l = meets_no s w c k l same (λ m _. rw (took u e, took y g, took a h))

      pub recv_closed : {j : ℕ} {b : Cursor} → z ≡ Ok (j, b) → {p : Out} {v : List ℕ} → HandlerRead at i s w b k p v → {r : Out} → Closes s f p r
          → TermRead Recv s w c k r v
      unfolding process_by
      recv_closed {j} {b} h t =
          let o₁ = u.on at d e in
          let o₂ = y.on i f g in
          let o₃ = a.on j b h in
          closed_meets (λ m lo. (rw (took u e, took y g, took a h), omega arith)) t (λ P. (refl, refl, λ f. f)) (λ g h j l x y. omega arith)

-- ── what stands in a recv's bracket
module _ (s w : List ℕ) (c : Cursor) (k : Tally) (at i : ℕ) where
  handler_as_lem : {h : Payload} → payload (kind_at s c.at) ≡ h → {f : ℕ → Result Proc} {r : Out} {v : List ℕ}
      → ((m : ℕ) → recv_by (λ d. read_process m s d) (λ d. read_branches m s 0 d) s at (name_in s i) c h ≡ f m)
      → Meets (term_form 1 k) s w c (more_terms k) (3 * unread s c + 1) f r v
      → HandlerRead at i s w c k r v
  handler_as_lem e {f} same t = record { is = λ m lo. rw (e, same m) (t.is m (omega arith)); kept = t.kept; on = t.on }

  pub handler_unit : {r : Out} {v : List ℕ} → payload (kind_at s c.at) ≡ UnitPayload → OneRead at i UnitPayload s w c k r v → HandlerRead at i s w c k r v
  unfolding recv_by payload_then payload_taken recvd_of
  handler_unit e = handler_as_lem e (λ m. sym (then_take (unit_taken s c) (expect s k_then) _))

  pub handler_channel : {r : Out} {v : List ℕ} → payload (kind_at s c.at) ≡ Channel → OneRead at i Channel s w c k r v → HandlerRead at i s w c k r v
  unfolding recv_by payload_then payload_taken recvd_of
  handler_channel e = handler_as_lem e (λ m. sym (then_take (expect s k_name c) (expect s k_then) _))

  pub handler_label : {r : Out} {v : List ℕ} → payload (kind_at s c.at) ≡ Label → LabelsRead at i s w c k r v → HandlerRead at i s w c k r v
  unfolding recv_by
  handler_label e = handler_as_lem e (λ m. refl)

  pub handler_other : {r : Out} → payload (kind_at s c.at) ≡ Other → r ≡ Err (misfit_refusal s c.at) → HandlerRead at i s w c k r w
  unfolding recv_by misfit
  handler_other e h = meets_no s w c (more_terms k) h same (λ m _. rw e)

-- ── () or a name, => and a process
received_after : (s : List ℕ) (h : Payload) (at : ℕ) (c : Located) (j : ℕ) (P : Proc) (k : Tally)
    → after_process P (more_terms k) ≡ after_process (recvd_of s h at c j P) k
unfolding recvd_of after_process
received_after s UnitPayload at c j P k = refl
received_after s Channel at c j P k = refl
received_after s Label at c j P k = refl
received_after s Other at c j P k = refl

received_write : (s : List ℕ) (h : Payload) → NoLabel h → (at i j : ℕ) (P : Proc) (k : Tally) (w : List ℕ)
    → (node_form k.terms (recvd_node h at i j)).write P (more_terms k) w ≡ write_process (recvd_of s h at (name_in s i) j P) k w
unfolding recvd_of payload_node write_process
received_write s UnitPayload _ at i j P k w = refl
received_write s Channel _ at i j P k w = refl
received_write s Label n at i j P k w = absurd n
received_write s Other _ at i j P k w = refl

received_fine : (s : List ℕ) (h : Payload) (at i j : ℕ) (P : Proc) → at < text_limit → i < text_limit → j < text_limit → FineProcess P
    → FineProcess (recvd_of s h at (name_in s i) j P)
unfolding recvd_of FineProcess
received_fine s UnitPayload at i j P a b d f = (a, b, f)
received_fine s Channel at i j P a b d f = (a, b, d, f)
received_fine s Label at i j P a b d f = (a, b, f)
received_fine s Other at i j P a b d f = (a, b, f)

module _ (s w : List ℕ) (c : Cursor) (k : Tally) (room : Room s w c (more_terms k)) (at i : ℕ) (a : at < text_limit) (b : i < text_limit) where
  module _ (h : Payload) {q : Taken} (u : Stepped s c 3 0 0 (payload_then s c h) q) where
    pub one_no : {r : Out} {y : Refusal} → q ≡ Err y → r ≡ Err y → OneRead at i h s w c k r w
    one_no g y = meets_no s w c (more_terms k) y same (λ m _. rw (took u g))

    pub one_read : NoLabel h → {j : ℕ} {d : Cursor} → q ≡ Ok (j, d) → {node : TermNode} → node ≡ recvd_node h at i j → {v : List ℕ}
        → v ≡ put_term w k.terms (pointing node (peek s d.at (k.terms + 1)))
        → {p : Out} {v₂ : List ℕ} → ProcessRead s v d (more_terms k) p v₂ → OneRead at i h s w c k p v₂
    one_read n {j} {d} e {node} ne x t =
        let o = u.on j d e in
        meets_as t (recvd_of s h at (name_in s i) j) w (more_terms k) (λ m lo. (rw (took u e), omega arith))
        (term_kept w k.terms (pointing node (peek s d.at (k.terms + 1))) (omega arith) x)
        (λ m P f p fi _. (
          received_after s h at (name_in s i) j P k,
          ap (write_process P (more_terms k)) (x ∙ ap (λ y. put_term w k.terms (pointing node y)) (sym (pointer_at m s d f P (k.terms + 1) p)))
              ∙ ap (λ y. (node_form k.terms y).write P (more_terms k) w) ne
              ∙ received_write s h n at i j P k w,
          received_fine s h at i j P a b (omega arith) fi,
        ))
        (λ d l p. omega arith)

  -- ── a branch for each label
  module _ {p : Out} {v : List ℕ} (t : BranchesRead s w c (more_terms k) p v) where
    pub labels_no : {r : Out} {y : Refusal} → p ≡ Err y → r ≡ Err y → LabelsRead at i s w c k r v
    labels_no g r-is = meets_no s w c (more_terms k) r-is t.kept (λ m lo. ap (lastly (recv_label at (name_in s i))) (stopped (read_branches m s 0 c) (t.is m lo) g))

    pub labels_got : {d : Cursor} {l : Tally} → p ≡ Ok (d, l) → {v₂ : List ℕ} → v₂ ≡ put_term v k.terms (term_node 8 at i l.branches l.last)
        → LabelsRead at i s w c k (Ok (d, l)) v₂
    unfolding after_process write_process FineProcess
    labels_got {d} {l} g x =
        let o = t.on d l g in
        let inside : Inside l = omega arith in
        meets_got s w c (more_terms k) (omega arith) (term_kept v k.terms (term_node 8 at i l.branches l.last) (omega arith) x upon t.kept)
        (λ m lo. gone_on (read_branches m s 0 c) (t.is m lo) g λ B e al av fi.
        let e₂ = after_branches B (more_terms k) in
        made_got (recv_label at (name_in s i) B) (ap (lastly (recv_label at (name_in s i))) e) (ap (λ x. Ok (d, x)) al)
        (x
        ∙ (λ j. put_term (av j) k.terms (term_node 8 at i (al j).branches (al j).last))
        ∙ sym (branches_put B (more_terms k) w k.terms (term_node 8 at i e₂.branches e₂.last) (omega arith) (subst Inside al inside)))
        (a, b, fi.0, fi.1))

-- ── try
part_last : {A B : Type 0} (h : A → B) (x : Result A) → part x (λ a d. got (h a) d) ≡ lastly h x
part_last h (got a d) = refl
part_last h (refused n i) = refl

module _ (s w : List ℕ) (c : Cursor) (k : Tally) (room : Room s w c k) {q : Taken} (u : Stepped s c 1 0 1 (process_term s k_try c) q) where
  pub try_no : {r : Out} {y : Refusal} → q ≡ Err y → r ≡ Err y → TermRead Try s w c k r w
  unfolding process_by
  try_no g h = meets_no s w c k h same (λ m _. rw (took u g))

  module _ {at : ℕ} {d : Cursor} (e : q ≡ Ok (at, d)) {p : Out} {v : List ℕ} (t : BracketedRead s w d (more_terms k) p v) where
    pub try_main_no : {r : Out} {y : Refusal} → p ≡ Err y → r ≡ Err y → TermRead Try s w c k r v
    unfolding process_by
    try_main_no g r-is =
        let o = u.on at d e in
        meets_no s w c k r-is t.kept (λ m lo. rw (took u e, stopped (bracketed_by (λ d. read_process m s d) s d) (t.is m (omega arith)) g))

    module _ {f : Cursor} {l : Tally} (g : p ≡ Ok (f, l)) {x : Taken} (y : Stepped s f 1 0 0 (expect s k_catch f) x) where
      pub try_catch_no : {r : Out} {y : Refusal} → x ≡ Err y → r ≡ Err y → TermRead Try s w c k r v
      unfolding process_by
      try_catch_no z h =
          let o = u.on at d e in
          meets_no s w c k h t.kept
          (λ m lo. gone_on (bracketed_by (λ d. read_process m s d) s d) (t.is m (omega arith)) g λ P a _ _ _. rw (took u e, a, took y z))

      module _ {i : ℕ} {b : Cursor} (z : x ≡ Ok (i, b)) {second third : ℕ} (sp : second ≡ peek s (token_at s d.at).end (k.terms + 1))
          (tp : third ≡ peek s (token_at s b.at).end l.terms) {v₂ : List ℕ}
          (put : v₂ ≡ put_term v k.terms (term_node 12 at 0 second third)) where
        -- the node between the halves is the one before them
        try_words : (m : ℕ) (P Q : Proc) (b₂ : Cursor) → bracketed_by (λ d. read_process m s d) s d ≡ got P f
            → bracketed_by (λ d. read_process m s d) s b ≡ got Q b₂
            → l ≡ after_process P (more_terms k) → v ≡ write_process P (more_terms k) w → write_process Q l v₂ ≡ write_process (try at P Q) k w
        unfolding write_process
        try_words m P Q b₂ a a₂ al av =
            let o = u.on at d e in
            let o₂ = t.on f l g in
            let inside : Inside l = omega arith in
            let e₂ = after_process P (more_terms k) in
            let first : second ≡ pointer_to P (k.terms + 1) = sp ∙ sym (pointer_in m s d f P (k.terms + 1) a) in
            let after : third ≡ pointer_to Q e₂.terms = tp ∙ sym (pointer_in m s b b₂ Q l.terms a₂) ∙ ap (λ (x : Tally). pointer_to Q x.terms) al in
            let node = term_node 12 at 0 (pointer_to P (k.terms + 1)) (pointer_to Q e₂.terms) in
            let words : v₂ ≡ write_process P (more_terms k) (put_term w k.terms node) =
            put
            ∙ (λ j. put_term (av j) k.terms (term_node 12 at 0 (first j) (after j)))
            ∙ sym (process_put P (more_terms k) w k.terms node (omega arith) (subst Inside al inside)) in
            λ j. write_process Q (al j) (words j)

        pub try_read : {p₂ : Out} {v₃ : List ℕ} → BracketedRead s v₂ b l p₂ v₃ → TermRead Try s w c k p₂ v₃
        unfolding process_by after_process FineProcess
        try_read t₂ =
            let o = u.on at d e in
            let o₂ = t.on f l g in
            let o₃ = y.on i b z in
            record {
              is = λ m lo. gone_on (bracketed_by (λ d. read_process m s d) s d) (t.is m (omega arith)) g λ P a al av fi.
                  made_as t₂ (try at P) w k m (omega arith) (rw (took u e, a, took y z) (part_last (try at P) (bracketed_by (λ d. read_process m s d) s b)))
                  (λ Q b₂ a₂ fi₂ _. (ap (after_process Q) al, try_words m P Q b₂ a a₂ al av, (omega arith, fi, fi₂)));
              kept = t₂.kept upon term_kept v k.terms (term_node 12 at 0 second third) (omega arith) put upon t.kept;
              on = λ b₂ l₂ h. let o₄ = t₂.on b₂ l₂ h in omega arith;
            }

-- ── the two halves of a spawn
module _ (s w : List ℕ) (c : Cursor) (k : Tally) (room : Room s w c k) (i at : ℕ) {p : Out} {v : List ℕ} (t : BracketedRead s w c k p v) where
  pub parts_no : {t : OrRefusal Turn} {d' : Cursor} {l' : Tally} {y : Refusal} → p ≡ Err y → t ≡ Err y → PartsTurned i at s w c k t d' l' v
  parts_no g r-is = turn_no r-is (meets_no s w c k refl t.kept (λ m lo. rw (stopped (bracketed_by (λ d. read_process m s d) s c) (t.is m (omega arith)) g)))

  module _ {d : Cursor} {l : Tally} (g : p ≡ Ok (d, l)) {second : ℕ} (sp : second ≡ peek s (token_at s c.at).end k.terms) where
    parts_whole : (r : Out) (y : List ℕ) → Meets (node_form i (term_node 5 at k.last second 0)) s v d l (3 * unread s d + 1) (λ m. read_rest m s d) r y
        → Meets (parts_form i at) s w c k (3 * unread s c + 1) (parts_by s c) r y
    parts_whole r y z =
        let o = t.on d l g in
        record {
          is = λ m lo. gone_on (bracketed_by (λ d. read_process m s d) s c) (t.is m (omega arith)) g λ P a al av fi.
              let to : second ≡ pointer_to P k.terms = sp ∙ sym (pointer_in m s c d P k.terms a) in
              made_as z (λ Q. (P, Q)) w k m (omega arith) (rw a)
              (λ Q _ _ fi₂ _. (
                ap (after_process Q) al,
                (λ j. write_process Q (al j) (put_term (av j) i
                    (term_node 5 at k.last (to j) (pointer_to Q (al j).terms)))),
                (fi, fi₂),
              ));
          kept = z.kept upon t.kept;
          on = λ b l₂ h. let o₂ = z.on b l₂ h in omega arith;
        }

    pub parts_on : {t₂ : OrRefusal Turn} {d' : Cursor} {l' : Tally} {v₂ : List ℕ} → RestTurned i (term_node 5 at k.last second 0) s v d l t₂ d' l' v₂ → PartsTurned i at s w c k t₂ d' l' v₂
    parts_on {t₂} z = let o = t.on d l g in turn_under t₂ (omega arith) t.kept parts_whole z

-- ── spawn
abbrev spawned : (x : Located) (A : Ty Located) → Proc × Proc → Proc
spawned x A p = spawn x A p.0 p.1

spawn_parts : (x : Located) (A : Ty Located) (new : Result Proc) (rest : Cursor → Result Proc)
    → part new (λ P d. lastly (spawn x A P) (rest d)) ≡ lastly (spawned x A) (part new (λ P d. lastly (λ Q. (P, Q)) (rest d)))
spawn_parts x A (got P d) rest = go (rest d)
  where
    go : (y : Result Proc) → lastly (spawn x A P) y ≡ lastly (spawned x A) (lastly (λ Q. (P, Q)) y)
    go (got Q e) = refl
    go (refused n i) = refl
spawn_parts x A (refused n i) rest = refl

module _ (s w : List ℕ) (c : Cursor) (k : Tally) (room : Room s w c k) {q : Taken} (u : Stepped s c 2 0 1 (name_colon s c) q) where
  spawn_is : (m : ℕ) → term_by Spawn s c m
      ≡ on_token (name_colon s c) (λ i e. part (read_type m s e) λ A f. on_token (expect s k_from f) λ _ g. part
      (bracketed_by (λ d. read_process m s d) s g) λ P h. lastly (spawn (name_in s i) A P)
      (read_rest m s h))
  unfolding name_colon process_by
  spawn_is m = sym (then_take (process_term s k_name c) (expect s k_colon) _)

  pub spawn_no : {t : OrRefusal Turn} {d' : Cursor} {l' : Tally} {y : Refusal} → q ≡ Err y → t ≡ Err y → TermTurned Spawn s w c k t d' l' w
  spawn_no g h = turn_no h (meets_no s w c k refl same (λ m _. spawn_is m ∙ rw (took u g)))

  module _ {i : ℕ} {d : Cursor} (e : q ≡ Ok (i, d)) {p : Out} {v : List ℕ} (t : TypeRead s w d (more_terms k) p v) where
    pub spawn_type_no : {t : OrRefusal Turn} {d' : Cursor} {l' : Tally} {y : Refusal} → p ≡ Err y → t ≡ Err y → TermTurned Spawn s w c k t d' l' v
    spawn_type_no g r-is =
        let o = u.on i d e in
        turn_no r-is (meets_no s w c k refl t.kept (λ m lo. spawn_is m ∙ rw (took u e, stopped (read_type m s d) (t.is m (omega arith)) g)))

    module _ {f : Cursor} {l : Tally} (g : p ≡ Ok (f, l)) {x : Taken} (y : Stepped s f 1 0 0 (expect s k_from f) x) where
      pub spawn_arrow_no : {t : OrRefusal Turn} {d' : Cursor} {l' : Tally} {y : Refusal} → x ≡ Err y → t ≡ Err y → TermTurned Spawn s w c k t d' l' v
      spawn_arrow_no z h =
          let o = u.on i d e in
          turn_no h (meets_no s w c k refl t.kept
          (λ m lo. gone_on (read_type m s d) (t.is m (omega arith)) g λ A a _ _ _. spawn_is m ∙ rw (took u e, a, took y z)))

      module _ {j : ℕ} {b : Cursor} (z : x ≡ Ok (j, b)) where
        -- the node after the type and the first half is the one before them
        spawn_words : (A : Ty Located) (P Q : Proc) → l ≡ after_type A (more_terms k) → v ≡ write_type A (more_terms k) w
            → Inside (after_process Q (after_process P l))
            → (parts_form k.terms i).write (P, Q) l v ≡ write_process (spawn (name_in s i) A P Q) k w
        unfolding write_process
        spawn_words A P Q al av inside =
            let o = u.on i d e in
            let o₂ = t.on f l g in
            let d₂ = after_type A (more_terms k) in
            let e₂ = after_process P d₂ in
            let node = term_node 5 i d₂.last (pointer_to P d₂.terms) (pointer_to Q e₂.terms) in
            let grown = process_grown P l in
            let grown₂ = process_grown Q (after_process P l) in
            let within : Inside (after_process P l) = omega arith in
            let before : k.terms < d₂.terms = subst (λ (x : Tally). k.terms < x.terms) al (omega arith) in
            (λ j. (parts_form k.terms i).write (P, Q) (al j) (av j))
            ∙ ap (write_process Q e₂)
            (sym (process_put P d₂ (write_type A (more_terms k) w) k.terms node before (subst (λ x. Inside (after_process P x)) al within))
            ∙ ap (write_process P d₂) (sym (type_put A (more_terms k) w k.terms node (subst (λ (x : Tally). (x.nodes ≤ 512) × (x.alternatives ≤ 512)) al
            (omega arith)))))

        spawn_whole : (r : Out) (y₂ : List ℕ) → Meets (parts_form k.terms i) s v b l (3 * unread s b + 1) (parts_by s b) r y₂
            → Meets process_form s w c k (3 * unread s c) (term_by Spawn s c) r y₂
        unfolding after_process FineProcess
        spawn_whole r y₂ t₂ =
            let o = u.on i d e in
            let o₂ = t.on f l g in
            let o₃ = y.on j b z in
            record {
              is = λ m lo. gone_on (read_type m s d) (t.is m (omega arith)) g λ A a al av fi.
                  made_as t₂ (spawned (name_in s i) A) w k m (omega arith)
                  (spawn_is m ∙ rw (took u e, a, took y z) (spawn_parts (name_in s i) A (bracketed_by (λ d. read_process m s d) s b) (λ d. read_rest m s d)))
                  (λ B _ _ fi₂ ah. (
                    (λ j. after_process B.1 (after_process B.0 (al j))),
                    spawn_words A B.0 B.1 al av (omega arith),
                    (omega arith, fi, fi₂.0, fi₂.1),
                  ));
              kept = t₂.kept upon t.kept;
              on = λ b₂ l₂ h. let o₄ = t₂.on b₂ l₂ h in omega arith;
            }

        pub spawn_on : {t₂ : OrRefusal Turn} {d' : Cursor} {l' : Tally} {v₂ : List ℕ} → PartsTurned k.terms i s v b l t₂ d' l' v₂ → TermTurned Spawn s w c k t₂ d' l' v₂
        spawn_on {t₂} h =
            let o = u.on i d e in
            let o₂ = t.on f l g in
            let o₃ = y.on j b z in
            turn_under t₂ (omega arith) t.kept spawn_whole h

-- ── a turn, by its first token
module _ (s w : List ℕ) (c : Cursor) (k : Tally) (room : Room s w c k) where
  process_suc : (m : ℕ) → read_process (suc m) s c ≡ term_by (term_head (kind_at s c.at)) s c m
  unfolding read_process
  process_suc m = refl

  turn_whole : (h : TermHead) → term_head (kind_at s c.at) ≡ h → (r : Out) (v : List ℕ) → TermRead h s w c k r v → ProcessRead s w c k r v
  turn_whole h e r v y = record {
    is = more_made process_form w k (λ m. read_process m s c) (λ m lo. rw (process_suc m, e)
        (y.is m (omega arith)));
    kept = y.kept;
    on = y.on;
  }

  pub turn_by : (h : TermHead) → term_head (kind_at s c.at) ≡ h → {t : OrRefusal Turn} {d' : Cursor} {l' : Tally} {v : List ℕ} → TermTurned h s w c k t d' l' v → TurnRead s w c k t d' l' v
  turn_by h e {t} a = turn_under t (omega arith) same (turn_whole h e) a

  pub turn_read : (h : TermHead) → term_head (kind_at s c.at) ≡ h → {r : Out} {v : List ℕ} → TermRead h s w c k r v → {d : Cursor} {l : Tally} → r ≡ Ok (d, l)
      → TurnRead s w c k (Ok Done) d l v
  turn_read h e {v = v} a {d} {l} g = turn_done (turn_whole h e (Ok (d, l)) v (rw g at a))

  pub turn_read_no : (h : TermHead) → term_head (kind_at s c.at) ≡ h → {r : Out} {v : List ℕ} → TermRead h s w c k r v → {t : OrRefusal Turn} {d' : Cursor} {l' : Tally} {y : Refusal} → r ≡ Err y
      → t ≡ Err y → TurnRead s w c k t d' l' v
  turn_read_no h e {v = v} a {y = y} g q = turn_no q (turn_whole h e (Err y) v (rw g at a))

  pub turn_empty : term_head (kind_at s c.at) ≡ Empty → (token_at s c.at).start ≤ text_limit → TurnRead s w c k (Ok Done) c k w
  unfolding process_by after_process write_process FineProcess
  turn_empty e l = turn_done (turn_whole Empty e (Ok (c, k)) w (meets_got s w c k (omega arith) same (λ m _. record { said = (refl, refl, l) })))
