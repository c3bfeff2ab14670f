-- What the definition says on each way through the code that reads terms without processes in brackets, and what follows a term.
use mathlib.Core.Path.{◌≡◌, refl, ap, sym, ◌∙◌}
use mathlib.Core.List.{List}
use mathlib.Core.Bool.{true}
use Prim.Native.Nat.{ℕ, suc, ◌+◌, ◌*◌, ◌<◌}
use native.Mathlib.Omega.{arith}
use lib.Dec.{eqb}
use borrow.Author.Tests.{eq-eqb, ne_eqb}
use Rattle.std.specs.Prelude.{Ok, Err}
use Rattle.notation.specs.Fine.{FineProcess}
use Rattle.notation.specs.Limits.{text_limit, process_term_limit}
use Rattle.notation.specs.Token.{kind_at, token_at, k_fwd, k_name, k_cancel, k_raise, k_send, k_semicolon}
use Rattle.notation.specs.Onward.{Onward}
use Rattle.notation.specs.Tree.{Located, Proc, empty, cancel, fwd, raise}
use Rattle.notation.specs.Refusals.{OrRefusal}
use Rattle.notation.specs.Reader.{Result, Taken, got, on_token, lastly, expect, misfit, process_term, name_in}
use Rattle.notation.specs.Processes.{payload, send_by, process_by, rest_by, read_process, read_rest}
use Rattle.notation.specs.Tables.{more_terms, term_node, put_term, empty_pointer, after_process, write_process}
use Rattle.notation.specs.declared.token.Token.{Token}
use Rattle.notation.specs.declared.refusal.Refusal.{Refusal}
use Rattle.notation.specs.declared.reading.Cursor.{Cursor}
use Rattle.notation.specs.declared.reading.Tally.{Tally}
use Rattle.notation.specs.declared.reading.TermNode.{TermNode}
use Rattle.notation.specs.declared.token.TermHead.TheVariants.{Send, Fwd, Cancel, Raise}
use Rattle.notation.specs.declared.token.Payload.{Payload}
use Rattle.notation.specs.declared.token.Payload.TheVariants.{Unit as UnitPayload, Channel, Label, Other}
use Rattle.read_types.specs.Filling.{Out, Kept, Stepped, Room, Meets, unread}
use Rattle.read_types.proofs.Filled.{same, ◌upon◌, took, made_got, meets_no, meets_got, more_no, more_got, more_made}
use Rattle.read_text.specs.declared.turns.Turn.{Turn}
use Rattle.read_text.specs.declared.turns.Turn.TheVariants.{On, Done}
use Rattle.read_text.specs.Turns.{peek, pointing, node_form, ProcessRead, RestTurned}
use Rattle.read_text.specs.Processes.{payload_taken, payload_node, sent_of, sent_node, TermRead, TermTurned, SentTurned}
use Rattle.read_text.proofs.Turning.{turn_no, term_kept, made_as, meets_as, lastly_same, turn_done, turn_on, turn_under}
use Rattle.read_text.proofs.Pointers.{pointer_at}

-- ── after a term
rest_suc : (m : ℕ) (s : List ℕ) (c : Cursor) → read_rest (suc m) s c ≡ rest_by (λ d. read_process m s d) s c
unfolding read_process
rest_suc m s c = refl

module _ (i : ℕ) (n : TermNode) (s w : List ℕ) (c : Cursor) (k : Tally) (room : Room s w c k) (few : i < process_term_limit) (t : Token)
    (is : t ≡ token_at s c.at)
    (o : Onward s c.at t) where
  kind_is : kind_at s c.at ≡ t.kind
  kind_is = ap (λ x. x.kind) (sym is)

  -- nothing follows
  pub rest_none : ((t.kind ≡ k_semicolon) → ⊥) → {v : List ℕ} → v ≡ put_term w i (pointing n (empty_pointer t.start))
      → RestTurned i n s w c k (Ok Done) c k v
  unfolding rest_by after_process write_process FineProcess
  rest_none d x =
      turn_done (more_got (node_form i n) s w c k (λ m. read_rest m s c) (omega (arith, o.starts)) (term_kept w i (pointing n (empty_pointer t.start)) few x)
      (λ m _. made_got (empty t.start) (rest_suc m s c ∙ rw (ne_eqb _ _ (λ e. d (sym kind_is ∙ e))) (ap (λ x. got (empty x.start) c) (sym is))) refl
      x (omega (arith, o.starts))))

  module _ (e : t.kind ≡ k_semicolon) {q : Taken} (u : Stepped s c 1 0 0 (expect s k_semicolon c) q) where
    semicolon : eqb (kind_at s c.at) k_semicolon ≡ true
    semicolon = eq-eqb _ _ (kind_is ∙ e)

    pub rest_no : {t : OrRefusal Turn} {d' : Cursor} {l' : Tally} {y : Refusal} → q ≡ Err y → t ≡ Err y → RestTurned i n s w c k t d' l' w
    unfolding rest_by
    rest_no g h = turn_no h (more_no (node_form i n) s w c k (λ m. read_rest m s c) refl same (λ m _. rest_suc m s c ∙ rw (semicolon, took u g)))

    module _ {j : ℕ} {d : Cursor} (g : q ≡ Ok (j, d)) {v : List ℕ} (x : v ≡ put_term w i (pointing n (peek s d.at k.terms))) where
      rest_kept : Kept w v
      rest_kept = term_kept w i (pointing n (peek s d.at k.terms)) few x

      rest_is : (m : ℕ) → read_rest (suc m) s c ≡ lastly (λ P. P) (read_process m s d)
      unfolding rest_by
      rest_is m = rest_suc m s c ∙ rw (semicolon, took u g) (lastly_same (read_process m s d))

      rest_whole : (r : Out) (y : List ℕ) → ProcessRead s v d k r y → Meets (node_form i n) s w c k (3 * unread s c + 1) (λ m. read_rest m s c) r y
      rest_whole r y a =
          let z = u.on j d g in
          record {
            is = more_made (node_form i n) w k (λ m. read_rest m s c)
                (λ m lo. made_as a (λ P. P) w k m (omega arith) (rest_is m)
                (λ P f p fi _. (refl, ap (write_process P k) (x ∙ ap (λ y. put_term w i (pointing n y)) (sym (pointer_at m s d f P k.terms p))), fi)));
            kept = a.kept upon rest_kept;
            on = λ b l p. let o₂ = a.on b l p in omega arith;
          }

      -- the process after the semicolon: its answer is the rest's
      pub rest_on : RestTurned i n s w c k (Ok On) d k v
      rest_on =
          let z = u.on j d g in
          turn_on rest_kept (record { room = omega (arith, rest_kept.long); later = omega arith; whole = rest_whole })

-- ── the definition's own words for what the code does in one step
sent_is : (rest : Cursor → Result Proc) (s : List ℕ) (at : ℕ) (c : Located) (d : Cursor) (h : Payload)
    → send_by rest s at c d h ≡ on_token (payload_taken s d h) (λ j e. lastly (sent_of s h at c j) (rest e))
unfolding send_by payload_taken sent_of misfit
sent_is rest s at c d UnitPayload = refl
sent_is rest s at c d Channel = refl
sent_is rest s at c d Label = refl
sent_is rest s at c d Other = refl

sent_after : (s : List ℕ) (h : Payload) (at : ℕ) (c : Located) (j : ℕ) (P : Proc) (k : Tally)
    → after_process P (more_terms k) ≡ after_process (sent_of s h at c j P) k
unfolding sent_of after_process
sent_after s UnitPayload at c j P k = refl
sent_after s Channel at c j P k = refl
sent_after s Label at c j P k = refl
sent_after s Other at c j P k = refl

sent_write : (s : List ℕ) (h : Payload) (at i j : ℕ) (P : Proc) (k : Tally) (w : List ℕ)
    → (node_form k.terms (sent_node h at i j)).write P (more_terms k) w ≡ write_process (sent_of s h at (name_in s i) j P) k w
unfolding sent_of payload_node write_process
sent_write s UnitPayload at i j P k w = refl
sent_write s Channel at i j P k w = refl
sent_write s Label at i j P k w = refl
sent_write s Other at i j P k w = refl

sent_fine : (s : List ℕ) (h : Payload) (at i j : ℕ) (P : Proc) → at < text_limit → i < text_limit → j < text_limit → FineProcess P
    → FineProcess (sent_of s h at (name_in s i) j P)
unfolding sent_of FineProcess
sent_fine s UnitPayload at i j P a b d f = (a, b, f)
sent_fine s Channel at i j P a b d f = (a, b, d, f)
sent_fine s Label at i j P a b d f = (a, b, d, f)
sent_fine s Other at i j P a b d f = (a, b, f)

-- ── what is sent, and the rest
module _ (s w : List ℕ) (c : Cursor) (k : Tally) (room : Room s w c (more_terms k)) (at i : ℕ) (a : at < text_limit) (b : i < text_limit) (h : Payload) {q : Taken}
    (u : Stepped s c 1 0 0 (payload_taken s c h) q) where
  pub sent_no : {t : OrRefusal Turn} {d' : Cursor} {l' : Tally} {y : Refusal} → q ≡ Err y → t ≡ Err y → SentTurned at i h s w c k t d' l' w
  sent_no g y = turn_no y (meets_no s w c (more_terms k) refl same (λ m _. sent_is _ s at (name_in s i) c h ∙ rw (took u g)))

  pub sent_on : {j : ℕ} {d : Cursor} → q ≡ Ok (j, d) → {n : TermNode} → n ≡ sent_node h at i j → {t : OrRefusal Turn} {d' : Cursor} {l' : Tally} {v : List ℕ}
      → RestTurned k.terms n s w d (more_terms k) t d' l' v
      → SentTurned at i h s w c k t d' l' v
  sent_on {j} {d} e {n} ne {t} y =
      let o = u.on j d e in
      turn_under t (omega arith) same
      (λ r v z. meets_as z (sent_of s h at (name_in s i) j) w (more_terms k) (λ m lo. (sent_is _ s at (name_in s i) c h ∙ rw (took u e), omega arith)) same
      (λ m P f _ fi _. (
        sent_after s h at (name_in s i) j P k,
        ap (λ n. (node_form k.terms n).write P (more_terms k) w) ne ∙ sent_write s h at i j P k w,
        sent_fine s h at i j P a b (omega arith) fi,
      )) (λ d l p. omega arith))
      y

-- ── a term's keyword
module _ (s w : List ℕ) (c : Cursor) (k : Tally) (room : Room s w c k) where
  -- send
  module _ {q : Taken} (u : Stepped s c 1 0 1 (process_term s k_send c) q) where
    pub send_no : {t : OrRefusal Turn} {d' : Cursor} {l' : Tally} {y : Refusal} → q ≡ Err y → t ≡ Err y → TermTurned Send s w c k t d' l' w
    unfolding process_by
    send_no g h = turn_no h (meets_no s w c k refl same (λ m _. rw (took u g)))

    module _ {at : ℕ} {d : Cursor} (e : q ≡ Ok (at, d)) {x : Taken} (y : Stepped s d 1 0 0 (expect s k_name d) x) where
      pub send_name_no : {t : OrRefusal Turn} {d' : Cursor} {l' : Tally} {y : Refusal} → x ≡ Err y → t ≡ Err y → TermTurned Send s w c k t d' l' w
      unfolding process_by
      send_name_no g h = turn_no h (meets_no s w c k refl same (λ m _. rw (took u e, took y g)))

      pub send_on : {i : ℕ} {f : Cursor} → x ≡ Ok (i, f) → {h : Payload} → h ≡ payload (kind_at s f.at) → {t : OrRefusal Turn} {d' : Cursor} {l' : Tally} {v : List ℕ}
          → SentTurned at i h s w f k t d' l' v → TermTurned Send s w c k t d' l' v
      unfolding process_by
      send_on {i} {f} g {h} p {t} z =
          let o = u.on at d e in
          let o₂ = y.on i f g in
          turn_under t (omega arith) same
          (λ r v b. meets_as b (λ P. P) w k (λ m lo. (rw (took u e, took y g, ← p) (lastly_same _), omega arith)) same (λ m P _ _ fi _. (refl, refl, fi))
          (λ d l p. omega arith))
          z

  -- cancel
  module _ {q : Taken} (u : Stepped s c 1 0 1 (process_term s k_cancel c) q) where
    pub cancel_no : {t : OrRefusal Turn} {d' : Cursor} {l' : Tally} {y : Refusal} → q ≡ Err y → t ≡ Err y → TermTurned Cancel s w c k t d' l' w
    unfolding process_by
    cancel_no g h = turn_no h (meets_no s w c k refl same (λ m _. rw (took u g)))

    module _ {at : ℕ} {d : Cursor} (e : q ≡ Ok (at, d)) {x : Taken} (y : Stepped s d 1 0 0 (expect s k_name d) x) where
      pub cancel_name_no : {t : OrRefusal Turn} {d' : Cursor} {l' : Tally} {y : Refusal} → x ≡ Err y → t ≡ Err y → TermTurned Cancel s w c k t d' l' w
      unfolding process_by
      cancel_name_no g h = turn_no h (meets_no s w c k refl same (λ m _. rw (took u e, took y g)))

      pub cancel_on : {i : ℕ} {f : Cursor} → x ≡ Ok (i, f) → {n : TermNode} → n ≡ term_node 4 at i 0 0 → {t : OrRefusal Turn} {d' : Cursor} {l' : Tally} {v : List ℕ} → RestTurned k.terms n s w f (more_terms k) t d' l' v
          → TermTurned Cancel s w c k t d' l' v
      unfolding process_by after_process write_process FineProcess
      cancel_on {i} {f} g ne {t} z =
          let o = u.on at d e in
          let o₂ = y.on i f g in
          turn_under t (omega arith) same
          (λ r v b. meets_as b (cancel at (name_in s i)) w k (λ m lo. (rw (took u e, took y g), omega arith)) same
          (λ m P _ _ fi _. (refl, ap (λ n. (node_form k.terms n).write P (more_terms k) w) ne, (omega arith, omega arith, fi))) (λ d l p. omega arith))
          z

  -- raise
  module _ {q : Taken} (u : Stepped s c 1 0 1 (process_term s k_raise c) q) where
    pub raise_no : {t : OrRefusal Turn} {d' : Cursor} {l' : Tally} {y : Refusal} → q ≡ Err y → t ≡ Err y → TermTurned Raise s w c k t d' l' w
    unfolding process_by
    raise_no g h = turn_no h (meets_no s w c k refl same (λ m _. rw (took u g)))

    pub raise_on : {at : ℕ} {d : Cursor} → q ≡ Ok (at, d) → {n : TermNode} → n ≡ term_node 11 at 0 0 0 → {v : List ℕ}
        → v ≡ put_term w k.terms (pointing n (peek s d.at (k.terms + 1)))
        → TermTurned Raise s w c k (Ok On) d (more_terms k) v
    unfolding process_by after_process write_process FineProcess
    raise_on {at} {d} e ne put =
        let o = u.on at d e in
        let x = put ∙ ap (λ n. put_term w k.terms (pointing n (peek s d.at (k.terms + 1)))) ne in
        let kept = term_kept w k.terms (pointing (term_node 11 at 0 0 0) (peek s d.at (k.terms + 1))) (omega arith) x in
        turn_on kept (record {
          room = omega (arith, kept.long);
          later = omega arith;
          whole = λ r y a. meets_as a (raise at) w k (λ m lo. (rw (took u e), omega arith)) kept
              (λ m P f p fi _. (
                refl,
                ap (write_process P (more_terms k)) (x ∙ ap (λ y. put_term w k.terms (term_node 11 at 0 0 y))
                    (sym (pointer_at m s d f P (k.terms + 1) p))),
                (omega arith, fi),
              ))
              (λ d l p. omega arith);
        })

  -- fwd
  module _ {q : Taken} (u : Stepped s c 1 0 1 (process_term s k_fwd c) q) where
    pub fwd_no : {r : Out} {y : Refusal} → q ≡ Err y → r ≡ Err y → TermRead Fwd s w c k r w
    unfolding process_by
    fwd_no g h = meets_no s w c k h same (λ m _. rw (took u g))

    module _ {at : ℕ} {d : Cursor} (e : q ≡ Ok (at, d)) {x : Taken} (y : Stepped s d 1 0 0 (expect s k_name d) x) where
      pub fwd_provided_no : {r : Out} {y : Refusal} → x ≡ Err y → r ≡ Err y → TermRead Fwd s w c k r w
      unfolding process_by
      fwd_provided_no g h = meets_no s w c k h same (λ m _. rw (took u e, took y g))

      module _ {i : ℕ} {f : Cursor} (g : x ≡ Ok (i, f)) {z : Taken} (o : Stepped s f 1 0 0 (expect s k_name f) z) where
        pub fwd_used_no : {r : Out} {y : Refusal} → z ≡ Err y → r ≡ Err y → TermRead Fwd s w c k r w
        unfolding process_by
        fwd_used_no h l = meets_no s w c k l same (λ m _. rw (took u e, took y g, took o h))

        pub fwd_got : {j : ℕ} {b : Cursor} {v : List ℕ} → z ≡ Ok (j, b) → {n : TermNode} → n ≡ term_node 9 at i j 0 → v ≡ put_term w k.terms n
            → TermRead Fwd s w c k (Ok (b, more_terms k)) v
        unfolding process_by after_process write_process FineProcess
        fwd_got {j} {b} h ne put =
            let x = put ∙ ap (put_term w k.terms) ne in
            let o₁ = u.on at d e in
            let o₂ = y.on i f g in
            let o₃ = o.on j b h in
            meets_got s w c k (omega arith) (term_kept w k.terms (term_node 9 at i j 0) (omega arith) x)
            (λ m _. made_got (fwd at (name_in s i) (name_in s j)) (rw (took u e, took y g, took o h)) refl x (omega arith))
